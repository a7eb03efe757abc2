-- The events of a run on a card, and the uses that were found on it: some, and then more.
use Rattle.std.proofs.Common.{◌≡◌, ◌∙◌, ℕ, Bool, true, false, cond, List, [], ◌∷◌, ◌++◌, map, length, suc, arith, refl, sym, ap, append_assoc, append-nil}
use Rattle.std.specs.Prelude.{◌==◌, ◌&&◌, filter, flat_map}
use Rattle.std.proofs.lemmas.List.{map-append}
use Rattle.std.proofs.lemmas.Grind.{flat_map-append}
use Rattle.std.proofs.lemmas.List.Elements.{filter-append}
use Rattle.trace_model.specs.declared.Card.{Card}
use Rattle.tach_media.specs.Medium.{State}
use Rattle.tacho_types.specs.declared.texts.Registration.{Registration}
use Rattle.card_files.specs.card_layout.declared.files.Application.{Application}
use Rattle.card_files.specs.declared.card_event.CardEvent.{CardEvent}
use Rattle.card_files.specs.declared.current_use.CurrentUse.{CurrentUse}
use Rattle.unit_notes.specs.event_model.declared.kinds.TheConstants.{INSERTION_WHILE_DRIVING, SESSION_NOT_CLOSED, POWER_INTERRUPTION}
use Rattle.unit_notes.specs.event_model.Events.{Event}
use Rattle.run_acts.specs.OnCards.{has_card, unclosed_at, unclosed_by, uses_past, events_by, gap_entry, gaps_on, StillShows, AreUses}

-- ---- tests

pub and-first : (a b : Bool) → (a && b) ≡ true → a ≡ true
and-first true b is = refl
and-first false b is = cc

pub and-second : (a b : Bool) → (a && b) ≡ true → b ≡ true
and-second true b is = is
and-second false b is = cc

-- ---- uses

pub uses-append : (images : List ℕ → Type 0) (uses more : List CurrentUse) (us vs : List ℕ) → AreUses images uses us → AreUses images more vs → AreUses images (uses ++ more) (us ++ vs)
uses-append images [] more [] vs h k = k
uses-append images [] more (u ∷ us) vs h k = absurd h
uses-append images (current ∷ uses) more [] vs h k = absurd h
uses-append images (current ∷ uses) more (u ∷ us) vs h k = (h.0, uses-append images uses more us vs h.1 k)

pub uses-still : (images later : List ℕ → Type 0) → ((x : List ℕ) → images x → later x) → (uses : List CurrentUse) (us : List ℕ) → AreUses images uses us → AreUses later uses us
uses-still images later on [] [] h = tt
uses-still images later on [] (u ∷ us) h = absurd h
uses-still images later on (current ∷ uses) [] h = absurd h
uses-still images later on (current ∷ uses) (u ∷ us) h = ((h.0.0, on h.0.0 h.0.1, h.0.2), uses-still images later on uses us h.1)

pub uses-long : (images : List ℕ → Type 0) (uses : List CurrentUse) (us : List ℕ) → AreUses images uses us → length uses ≡ length us
uses-long images [] [] h = refl
uses-long images [] (u ∷ us) h = absurd h
uses-long images (current ∷ uses) [] h = absurd h
uses-long images (current ∷ uses) (u ∷ us) h = ap suc (uses-long images uses us h.1)

pub unclosed-append : (uses more : List CurrentUse) (us vs : List ℕ) → length uses ≡ length us → unclosed_by (uses ++ more) (us ++ vs) ≡ unclosed_by uses us ++ unclosed_by more vs
unclosed-append [] more [] vs long = refl
unclosed-append [] more (u ∷ us) vs long = absurd (let wrong : 0 ≡ suc (length us) = long in omega (arith, wrong))
unclosed-append (current ∷ uses) more [] vs long = absurd (let wrong : suc (length uses) ≡ 0 = long in omega (arith, wrong))
unclosed-append (current ∷ uses) more (u ∷ us) vs long =
    let rest : length uses ≡ length us = (let both : suc (length uses) ≡ suc (length us) = long in omega (arith, both)) in
    ap (λ (es : List CardEvent). unclosed_at current u ++ es) (unclosed-append uses more us vs rest) ∙ sym (append_assoc (unclosed_at current u) (unclosed_by uses us) (unclosed_by more vs))

-- the uses behind some acceptances
pub unclosed-none : (uses : List CurrentUse) → unclosed_by uses [] ≡ []
unclosed-none [] = refl
unclosed-none (current ∷ uses) = refl

past-none : (us : List ℕ) → uses_past us [] ≡ []
past-none [] = refl
past-none (u ∷ us) = refl

pub past-both : (us vs : List ℕ) (uses : List CurrentUse) → uses_past (us ++ vs) uses ≡ uses_past vs (uses_past us uses)
past-both [] vs uses = refl
past-both (u ∷ us) vs [] = sym (past-none vs)
past-both (u ∷ us) vs (current ∷ uses) = past-both us vs uses

module _ (images : List ℕ → Type 0) where
  pub uses-past : (us vs : List ℕ) (uses : List CurrentUse) → AreUses images uses (us ++ vs) → AreUses images (uses_past us uses) vs
  uses-past [] vs uses are = are
  uses-past (u ∷ us) vs [] are = absurd are
  uses-past (u ∷ us) vs (current ∷ uses) are = uses-past us vs uses are.1

  pub past-longer : (us vs : List ℕ) (uses more : List CurrentUse) → AreUses images uses (us ++ vs) → uses_past us (uses ++ more) ≡ uses_past us uses ++ more
  past-longer [] vs uses more are = refl
  past-longer (u ∷ us) vs [] more are = absurd are
  past-longer (u ∷ us) vs (current ∷ uses) more are = past-longer us vs uses more are.1

  pub unclosed-longer : (us vs : List ℕ) (uses more : List CurrentUse) → AreUses images uses (us ++ vs) → unclosed_by (uses ++ more) us ≡ unclosed_by uses us
  unclosed-longer [] vs uses more are = unclosed-none (uses ++ more) ∙ sym (unclosed-none uses)
  unclosed-longer (u ∷ us) vs [] more are = absurd are
  unclosed-longer (u ∷ us) vs (current ∷ uses) more are = ap (λ (es : List CardEvent). unclosed_at current u ++ es) (unclosed-longer us vs uses more are.1)

-- ---- events by type

pub events-append : (kind : ℕ) (g m u g' m' u' : List CardEvent) → events_by kind (g ++ g') (m ++ m') (u ++ u') ≡ events_by kind g m u ++ events_by kind g' m' u'
events-append kind g m u g' m' u' = by (kind == POWER_INTERRUPTION) (kind == INSERTION_WHILE_DRIVING) (kind == SESSION_NOT_CLOSED)
  where
    by : (p q r : Bool) → cond p (g ++ g') (cond q (m ++ m') (cond r (u ++ u') [])) ≡ cond p g (cond q m (cond r u [])) ++ cond p g' (cond q m' (cond r u' []))
    by true q r = refl
    by false true r = refl
    by false false true = refl
    by false false false = refl

pub events-none : (kind : ℕ) → events_by kind [] [] [] ≡ []
events-none kind = by (kind == POWER_INTERRUPTION) (kind == INSERTION_WHILE_DRIVING) (kind == SESSION_NOT_CLOSED)
  where
    by : (p q r : Bool) → cond {A = List CardEvent} p [] (cond q [] (cond r [] [])) ≡ []
    by true q r = refl
    by false true r = refl
    by false false true = refl
    by false false false = refl

-- ---- images

pub still-same : (app : Application) (card : State) → StillShows app card card
still-same app card y left = (y, left, λ kind. refl)

pub still-then : (app : Application) (x y z : State) → StillShows app x y → StillShows app y z → StillShows app x z
still-then app x y z first next c left =
    let two = next c left in
    let one = first two.0 two.1 in
    (one.0, one.1, λ kind. two.2 kind ∙ one.2 kind)

-- ---- one second more

pub flat-one : {X Y : Type 0} (h : X → List Y) (xs : List X) (x : X) → flat_map h (xs ++ x ∷ []) ≡ flat_map h xs ++ h x
flat-one h xs x = flat_map-append h xs (x ∷ []) ∙ (λ i. flat_map h xs ++ append-nil (h x) i)

pub gaps-append : (c : Card) (own : Registration) (es fs : List Event) → gaps_on c own (es ++ fs) ≡ gaps_on c own es ++ gaps_on c own fs
gaps-append c own es fs =
    ap (λ (l : List Event). map (gap_entry c own) l) (filter-append (λ (e : Event). has_card e.at_begin c) es fs)
    ∙ map-append (gap_entry c own) (filter (λ (e : Event). has_card e.at_begin c) es) (filter (λ (e : Event). has_card e.at_begin c) fs)
