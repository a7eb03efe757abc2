-- What the keeping of minutes makes of the cards: none, one after another, and a minute of one card and the other.
use Rattle.std.proofs.Common.{◌≡◌, ◌∙◌, Bool, true, false, List, [], ◌∷◌, ◌++◌, append_assoc, Option, Some, None, IfSome, refl, ap, sym, subst, ℕ}
use Rattle.std.specs.Prelude.{is_some, if◌then◌else◌}
use Rattle.std.proofs.lemmas.List.{append-nil}
use Rattle.activity_codec.specs.declared.values.Slot.TheVariants.{Driver, CoDriver}
use Rattle.trace_model.specs.declared.Card.{Card}
use Rattle.trace_model.specs.declared.Card.TheVariants.{A, B}
use Rattle.tach_media.specs.Medium.{State, IsCoherent}
use Rattle.unit_model.specs.minute_model.declared.Minute.{Minute}
use Rattle.tacho_types.specs.declared.numbers.Odometer.{Odometer}
use Rattle.tacho_types.specs.declared.texts.Registration.{Registration}
use Rattle.tach_media.specs.card_layout.declared.files.Application.{Application}
use Rattle.hand_model.specs.card_image.Own.{own_sizes}
use Rattle.card_session.specs.declared.session.Kept.{Kept}
use Rattle.card_session.specs.Sessions.{IsSession}
use Rattle.activity_codec.specs.declared.entries.Manual.{Manual}
use Rattle.hand_model.specs.Holding.{Holding, begun_by, first_of}
use Rattle.device_calls.specs.card_by_hand.First.{IsFirstKept}
use Rattle.device_calls.specs.OnCard.{hands_for}
use Rattle.device_calls.specs.card_string.Deeds.{Deed}
use Rattle.unit_minutes.specs.declared.kept.KeptMinute.{KeptMinute}
use Rattle.run_devices.specs.safety_model.Safe.{Devices, card_of}
use Rattle.card_slots.specs.declared.seats.Present.{Present}
use Rattle.run_crew.specs.declared.cards.Accepted.{Accepted}
use Rattle.run_crew.specs.declared.cards.Cards.{Cards}
use Rattle.run_crew.specs.Cards.{session_of, with_session}
use Rattle.run_devices.specs.run_promise.Found.{CardFound, Found, found_of}
use Rattle.run_devices.specs.run_promise.Between.{devices}
use Rattle.run_devices.specs.Told.{arranged}
use Rattle.run_minutes.specs.declared.keeper.Keeper.{Keeper}
use Rattle.run_minutes.specs.Keeping.{kept_in, is_this}
use Rattle.run_minutes.specs.Minutes.{present_at, minute_of}
use Rattle.run_minutes.specs.CardDeeds.{DoesOn, keeps, holds_after, last_odometer}
use Rattle.run_minutes.specs.Deeds.{KeepsOn, AllKeep, kept_for, kept_on, kepts_on}
use Rattle.run_minutes.proofs.CardDeeds.{does-none, does-then, holds-append, keeps-append, last-append, does-keep}

-- ---- keeps

-- nothing is kept
pub keeps-self : (f : CardFound) (s : Option Accepted) (X : State) → KeepsOn f [] s s X X
keeps-self f None X = does-none (own_sizes f.image) X
keeps-self f (Some a) X = (refl, refl, refl, λ none. (none, refl), does-none (own_sizes f.image) X)

-- some and then others
pub keeps-then : (f : CardFound) (ks ls : List Kept) (s t u : Option Accepted) (X Y Z : State) → KeepsOn f ks s t X Y → KeepsOn f ls t u Y Z → KeepsOn f (ks ++ ls) s u X Z
keeps-then f ks ls None None None X Y Z first next = does-then (own_sizes f.image) [] [] X Y Z first next
keeps-then f ks ls None None (Some c) X Y Z first next = next
keeps-then f ks ls None (Some b) None X Y Z first next = absurd first
keeps-then f ks ls None (Some b) (Some c) X Y Z first next = absurd first
keeps-then f ks ls (Some a) None None X Y Z first next = tt
keeps-then f ks ls (Some a) None (Some c) X Y Z first next = absurd next
keeps-then f ks ls (Some a) (Some b) None X Y Z first next = tt
keeps-then f ks ls (Some a) (Some b) (Some c) X Y Z first next =
    let v : Registration = a.session.registration in
    let o : Option Odometer = a.session.odometer in
    let h : List Manual = a.held.entries in
    let same : keeps b.session.registration b.session.odometer b.held.entries ls ≡ keeps v (last_odometer o ks) (holds_after h ks) ls =
    ap (λ (r : Registration). keeps r b.session.odometer b.held.entries ls) first.0 ∙ ap (λ (n : Option Odometer). keeps v n b.held.entries ls) first.1 ∙ ap (λ (g : List Manual). keeps v (last_odometer o ks) g ls) first.2 in (
      next.0 ∙ first.0,
      next.1 ∙ ap (λ (n : Option Odometer). last_odometer n ls) first.1 ∙ sym (last-append o ks ls),
      next.2 ∙ ap (λ (g : List Manual). holds_after g ls) first.2 ∙ sym (holds-append h ks ls),
      λ none.
          let y = next.3 none in
          let x = first.3 y.0 in
          (x.0, ap (λ (l : List Kept). l ++ ls) x.1 ∙ y.1),
      subst (λ (ds : List Deed). DoesOn (own_sizes f.image) ds X Z) (sym (keeps-append v o h ks ls))
          (does-then (own_sizes f.image) (keeps v o h ks) (keeps v (last_odometer o ks) (holds_after h ks) ls) X Y Z first.4 (subst (λ (ds : List Deed). DoesOn (own_sizes f.image) ds Y Z) same next.4)),
    )

never : (minute : ℕ) (o : Option ℕ) → first_of minute o ≡ None → ⊥
never minute None is = absurd (cc)
never minute (Some first) is = absurd (cc)

pub keeps-has : (f : CardFound) (said : Kept) (a t : Accepted) (X Y : State) → a.session.application ≡ own_sizes f.image → t.session.registration ≡ a.session.registration → t.session.odometer ≡ Some said.odometer → t.held ≡ begun_by said.entry.minute a.held
    → IsCoherent X → IsCoherent Y → Y.works ≡ true → is_some Y.image ≡ is_some X.image → IfSome X.image (IsSession a.session)
    → IfSome X.image (λ x. IfSome Y.image (λ y. IsSession a.session x → IsFirstKept a.session t.session (hands_for a.held said.entry.minute) said.entry said.odometer.0 x y)) → KeepsOn f (said ∷ []) (Some a) (Some t) X Y
keeps-has f said a t X Y sizes vehicle odometer held whole after works tells session kept = (
  vehicle,
  odometer,
  ap (λ (g : Holding). g.entries) held,
  λ none. absurd (never said.entry.minute a.held.begun (sym (ap (λ (g : Holding). g.begun) held) ∙ none)),
  subst (λ (app : Application). DoesOn app (keeps a.session.registration a.session.odometer a.held.entries (said ∷ [])) X Y) sizes
      (does-keep a.session t.session (hands_for a.held said.entry.minute) said.entry said.odometer.0 X Y whole after works tells session kept),
)

-- ---- both cards

pub keep-by : (f : Found) (c : Card) (said : Kept) (cards : Cards) (s : Option Accepted) (U V X Y Z : State) → KeepsOn (found_of f c) (said ∷ []) (session_of cards c) s X Y
    → AllKeep f (kept_for (Some c) said) cards (with_session c s cards) (arranged c U X Z) (arranged c V Y Z)
keep-by f A said cards s U V X Y Z on A valid = on
keep-by f A said cards s U V X Y Z on B valid = keeps-self (found_of f B) (session_of cards B) Z
keep-by f B said cards s U V X Y Z on A valid = keeps-self (found_of f A) (session_of cards A) Z
keep-by f B said cards s U V X Y Z on B valid = on

pub keep-none : (f : Found) (cards : Cards) (d : Devices) → AllKeep f (λ c. []) cards cards d d
keep-none f cards d c valid = keeps-self (found_of f c) (session_of cards c) (card_of d c)

-- the cards alone tell of that
pub keep-at : (f : Found) (ks : Card → List Kept) (cards after : Cards) (U V X Y : State) (e : Devices) → AllKeep f ks cards after (devices V X Y) e → AllKeep f ks cards after (devices U X Y) e
keep-at f ks cards after U V X Y e all A = all A
keep-at f ks cards after U V X Y e all B = all B

pub keep-then : (f : Found) (ks ls all : Card → List Kept) (cards mid after : Cards) (d e g : Devices) → ((c : Card) → ks c ++ ls c ≡ all c) → AllKeep f ks cards mid d e → AllKeep f ls mid after e g → AllKeep f all cards after d g
keep-then f ks ls all cards mid after d e g are first next c valid =
    subst (λ (l : List Kept). KeepsOn (found_of f c) l (session_of cards c) (session_of after c) (card_of d c) (card_of g c)) (are c)
    (keeps-then (found_of f c) (ks c) (ls c) (session_of cards c) (session_of mid c) (session_of after c) (card_of d c) (card_of e c) (card_of g c) (first c valid) (next c valid))

-- ---- which minutes

kept-two : (a b : Bool) (k l : Kept) → (a ≡ true → b ≡ false) → (if a then k ∷ [] else []) ++ (if b then l ∷ [] else []) ≡ (if a then k ∷ [] else (if b then l ∷ [] else []))
kept-two true true k l two = let no = two refl in absurd (cc)
kept-two true false k l two = refl
kept-two false true k l two = refl
kept-two false false k l two = refl

pub kept-both : (present : Present) (m : KeptMinute) (c : Card) → (is_this present.driver c ≡ true → is_this present.codriver c ≡ false)
    → kept_for present.driver (kept_in m Driver) c ++ kept_for present.codriver (kept_in m CoDriver) c ≡ kept_on present m c
kept-both present m c two = kept-two (is_this present.driver c) (is_this present.codriver c) (kept_in m Driver) (kept_in m CoDriver) two

pub kepts-snoc : (k : Keeper) (ms : List Minute) (m : Minute) (c : Card) → kepts_on k ms c ++ kept_on (present_at k.cabin m.minute) (minute_of m k) c ≡ kepts_on k (ms ++ m ∷ []) c
kepts-snoc k [] m c = sym (append-nil (kept_on (present_at k.cabin m.minute) (minute_of m k) c))
kepts-snoc k (n ∷ ns) m c =
    let here : List Kept = kept_on (present_at k.cabin n.minute) (minute_of n k) c in
    append_assoc here (kepts_on k ns c) (kept_on (present_at k.cabin m.minute) (minute_of m k) c) ∙ ap (λ (l : List Kept). here ++ l) (kepts-snoc k ns m c)
