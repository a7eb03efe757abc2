-- Decided minutes are kept, one after another.
use Rattle.std.proofs.Common.{◌≡◌, ◌∙◌, inl, inr, ℕ, ◌+◌, ◌<◌, ◌≤◌, arith, Bool, true, false, IfSome, List, [], ◌∷◌, ◌++◌, length, take, drop, All, Option, Some, None, ap, sym, subst}
use Rattle.std.specs.Prelude.{get_or}
use Rattle.std.proofs.lemmas.List.{drop_more, take_more, take-append-drop}
use Rattle.std.proofs.lemmas.List.Elements.{All-get_or}
use Rattle.activity_codec.specs.declared.values.Activity.TheVariants.{Rest}
use Rattle.trace_model.specs.declared.Card.{Card}
use Rattle.tach_media.specs.Medium.{State}
use Rattle.unit_model.specs.minute_model.declared.Minute.{Minute}
use Rattle.unit_minutes.specs.declared.kept.KeptMinute.{KeptMinute}
use Rattle.card_slots.specs.declared.seats.Present.{Present}
use Rattle.run_crew.specs.declared.cards.Cards.{Cards}
use Rattle.run_minutes.specs.declared.keeper.Moment.{Moment}
use Rattle.run_minutes.specs.Keeping.{HasItsRow, HaveRows}
use Rattle.run_minutes.specs.Minutes.{Round, KeepingState, IsRound, IsMinute, IsCutShort, AreKept, more, told_after, kept_of, minute_of, present_at, AreDue, kept_after}
use Rattle.run_minutes.proofs.Sessions.{some-goes}

-- ---- the minute that is kept after so many

abbrev pub no_minute : Minute
no_minute = record { minute = 0; driver = Rest; codriver = Rest; travelled = 0 }

module _ (ds : List Minute) (i : ℕ) (low : i < length ds) where
  abbrev pub this : Minute
  this = get_or ds i no_minute

  pub rest : drop i ds ≡ this ∷ drop (i + 1) ds
  rest = drop_more ds i no_minute low

  pub front : take (i + 1) ds ≡ take i ds ++ this ∷ []
  front = take_more ds i no_minute low

  pub whole : ds ≡ take i ds ++ this ∷ drop (i + 1) ds
  whole = sym (take-append-drop i ds) ∙ ap (λ (zs : List Minute). take i ds ++ zs) rest

  pub due-here : (kept : ℕ) → AreDue kept (drop i ds) → AreDue kept (this ∷ drop (i + 1) ds)
  due-here kept h = subst (AreDue kept) rest h

  pub kept-here : (kept : ℕ) → kept_after kept (drop i ds) ≡ kept_after this.minute (drop (i + 1) ds)
  kept-here kept = ap (kept_after kept) rest

  pub all-here : (P : Minute → Type 0) → All P ds → P this
  all-here P h = All-get_or P ds i no_minute low h

  -- it was to be kept, and these cards were present in it
  module _ (at : Moment) (t u v : KeepingState) (p : Present) (k : KeptMinute) (A B C D : State) (cards : p ≡ present_at u.keeper.cabin this.minute) (is : k ≡ kept_of u.keeper.odometer this p) (so : AreKept at (take i ds) t u) where
    round-here : (failed : Bool) (r : Round) → IsRound p k at failed u.keeper r → IsRound (present_at u.keeper.cabin this.minute) (minute_of this u.keeper) at failed u.keeper r
    round-here failed r h =
        subst (λ (q : Present). IsRound q (kept_of u.keeper.odometer this q) at failed u.keeper r) cards (subst (λ (m : KeptMinute). IsRound p m at failed u.keeper r) is h)

    told-here : (r : Round) → v ≡ told_after p k.minute at r u → v ≡ told_after (present_at u.keeper.cabin this.minute) this.minute at r u
    told-here r h = h ∙ ap (λ (m : KeptMinute). told_after p m.minute at r u) is ∙ ap (λ (q : Present). told_after q this.minute at r u) cards

    pub kept-on : (round : Option Round) → IsMinute p k at false u v A B C D round → AreKept at (take (i + 1) ds) t v
    kept-on None h = let no = h.0 in absurd (cc)
    kept-on (Some r) h =
        subst (λ (xs : List Minute). AreKept at xs t v) (sym front)
        (subst (λ (w : KeepingState). AreKept at (take i ds ++ this ∷ []) t w) (sym (told-here r h.2)) (more this (take i ds) r t u so (round-here false r h.0)))

    pub cut-on : (round : Option Round) → IsMinute p k at true u v A B C D round → IsCutShort ds at t v
    cut-on None h = record { front = take i ds; here = this; rest = drop (i + 1) ds; are = whole; between = u; kept = so; last = inl h.1 }
    cut-on (Some r) h = record { front = take i ds; here = this; rest = drop (i + 1) ds; are = whole; between = u; kept = so; last = inr (r, round-here true r h.0, told-here r h.2) }

-- the last one is none of those before
pub due-most : (kept : ℕ) (ms : List Minute) → AreDue kept ms → kept ≤ kept_after kept ms
due-most kept [] due = omega arith
due-most kept (m ∷ ms) due = let here = due.0 in let rest = due-most m.minute ms due.3 in omega (arith, here, rest)

-- ---- who was present

-- what holds of those of a minute, by what is known of it
pub present-here : (P : Present → Type 0) (o : Option Present) (p : Present) → Some p ≡ o → IfSome o P → P p
present-here P None p is h = absurd (cc)
present-here P (Some q) p is h = let same : q ≡ p = cc in subst P same h

-- their rows are there still
pub rows-on : (old new : Cards) (U V : State) (p : Present) → ((card : Card) → HasItsRow old U card → HasItsRow new V card) → HaveRows old U p → HaveRows new V p
rows-on old new U V p goes h = record {
  driver = some-goes p.driver (HasItsRow old U) (HasItsRow new V) goes h.driver;
  codriver = some-goes p.codriver (HasItsRow old U) (HasItsRow new V) goes h.codriver;
}
