-- Events name valid cards alone.
use Rattle.std.proofs.Common.{◌≡◌, ◌∙◌, ℕ, true, Option, Some, None, IfSome, is_some, List, [], ◌∷◌, ◌++◌, length, take_all, refl, ap, sym, subst, arith, append-nil}
use Rattle.activity_codec.specs.declared.values.Slot.{Slot}
use Rattle.activity_codec.specs.declared.values.Slot.TheVariants.{Driver, CoDriver}
use Rattle.trace_model.specs.declared.Card.{Card}
use Rattle.hand_model.specs.card_image.Own.{IsOwnValid}
use Rattle.log_model.specs.Slots.{Sitting}
use Rattle.log_model.specs.Course.{ToldSecond, Course}
use Rattle.device_calls.specs.device_rule.Rules.{Standing}
use Rattle.unit_notes.specs.event_model.Events.{Event, Crew, accepted_card, crew_of, with_card}
use Rattle.run_minutes.specs.run_promise.Found.{found_of}
use Rattle.run_crew.specs.declared.cabin.Cabin.{Cabin}
use Rattle.run_minutes.specs.run_devices.Presence.{PresentStand, sits}
use Rattle.run_minutes.specs.run_promise.Origin.{Origin}
use Rattle.card_files.specs.card_layout.Fields.{number_in as field_number, field_at}
use Rattle.tacho_types.specs.declared.card_number.FullCardNumber.{FullCardNumber}
use Rattle.tacho_types.specs.CardNumber.{card_number_widths, card_number_bytes, card_number_of}
use Rattle.run_minutes.specs.run_devices.Told.{AreFoundCards}
use Rattle.run_crew.specs.declared.cards.Cards.{Cards}
use Rattle.run_crew.specs.Cards.{known_of, session_of}
use Rattle.run_note_record.specs.Evented.{number_in}
use Rattle.run_acts.specs.EventCrews.{AreKnownAs}
use Rattle.run_acts.specs.KeptEvents.{AreNumbered}
use Rattle.run_acts.specs.Recording.{IsOrigin}
use Rattle.run_acts.specs.Named.{ValidHere, CrewValid, NamesValid, named_as, watched_as}
use Rattle.run_acts.proofs.Numbers.{all-long, same-number}

pub both-valid : (o : Origin) (es fs : List Event) → NamesValid o es → NamesValid o fs → NamesValid o (es ++ fs)
both-valid o [] fs h k = k
both-valid o (e ∷ es) fs h k = (h.0, both-valid o es fs h.1 k)

-- ---- the accepted cards of a moment are valid
card-valid : (o : Origin) (sitting : Option Sitting) → ((card : Card) (u : ℕ) → sitting ≡ sits card u → ValidHere o card) → IfSome (accepted_card sitting) (ValidHere o)
card-valid o None h = tt
card-valid o (Some x) h = by x.accepted refl
  where
    by : (a : Option ℕ) → x.accepted ≡ a → IfSome (accepted_card (Some x)) (ValidHere o)
    by None is = subst (λ (q : Option ℕ). IfSome (accepted_card (Some (record { card = x.card; accepted = q }))) (ValidHere o)) (sym is) tt
    by (Some u) is = subst (λ (q : Option ℕ). IfSome (accepted_card (Some (record { card = x.card; accepted = q }))) (ValidHere o)) (sym is)
        (h x.card u (ap (λ (q : Option ℕ). Some (record { card = x.card; accepted = q })) is))

pub crew-valid : (o : Origin) → IsOrigin o → (standing : Card → Standing) (told : List ToldSecond) (c : Course) (number from : ℕ) (cabin : Cabin) → PresentStand o.found standing told c number from cabin → CrewValid o (crew_of c.slots)
crew-valid o origin standing told c number from cabin h = record {
  driver = card-valid o c.slots.driver (λ card u there. subst IsOwnValid (origin.image card) (h.seated Driver card u there).0);
  codriver = card-valid o c.slots.codriver (λ card u there. subst IsOwnValid (origin.image card) (h.seated CoDriver card u there).0);
}

-- without one of them, too
pub without-valid : (o : Origin) (slot : Slot) (crew : Crew) → CrewValid o crew → CrewValid o (with_card slot None crew)
without-valid o Driver crew h = record { driver = tt; codriver = h.codriver }
without-valid o CoDriver crew h = record { driver = h.driver; codriver = tt }

-- ---- the numbers by which cards are watched

number-back : (bytes : List ℕ) → length bytes ≡ 18 → card_number_bytes (card_number_of bytes) ≡ bytes
number-back [] is = absurd (omega (arith, is))
number-back (a ∷ []) is = absurd (omega (arith, is))
number-back (a ∷ b ∷ ns) is =
    let kind : field_number card_number_widths 0 (a ∷ b ∷ ns) ≡ a = omega arith in
    let state : field_number card_number_widths 1 (a ∷ b ∷ ns) ≡ b = omega arith in
    let rest : field_at card_number_widths 2 (a ∷ b ∷ ns) ≡ ns = take_all 16 ns (omega (arith, is)) in
    ap (λ (n : ℕ). n ∷ field_number card_number_widths 1 (a ∷ b ∷ ns) ∷ (field_at card_number_widths 2 (a ∷ b ∷ ns) ++ [])) kind
    ∙ ap (λ (n : ℕ). a ∷ n ∷ (field_at card_number_widths 2 (a ∷ b ∷ ns) ++ [])) state
    ∙ ap (λ (l : List ℕ). a ∷ b ∷ (l ++ [])) rest ∙ ap (λ (l : List ℕ). a ∷ b ∷ l) (append-nil ns)

pub are-numbered : (o : Origin) → IsOrigin o → AreNumbered (named_as o) (watched_as o)
are-numbered o origin c = sym (number-back (number_in (named_as o) c) (all-long o origin.long c))

-- a number goes by its bytes
heads : (a b c d : ℕ) (xs ys : List ℕ) → a ∷ b ∷ xs ≡ c ∷ d ∷ ys → (a ≡ c) × (b ≡ d) × (xs ≡ ys)
heads a b c d xs ys is = let x : a ≡ c = cc in let y : b ≡ d = cc in let z : xs ≡ ys = cc in (x, y, z)

one-number : (v w : FullCardNumber) → card_number_bytes v ≡ card_number_bytes w → v ≡ w
one-number v w is =
    let h = heads v.kind v.state.0 w.kind w.state.0 (v.number ++ []) (w.number ++ []) is in
    let rest : v.number ≡ w.number = sym (append-nil v.number) ∙ h.2 ∙ append-nil w.number in
    λ i. record { kind = h.0 i; state = record { 0 = h.1 i }; number = rest i }

pub known-as : (o : Origin) (origin : IsOrigin o) (cards : Cards) → AreFoundCards o.found cards → ((c : Card) → is_some (session_of cards c) ≡ true → ValidHere o c) → AreKnownAs (watched_as o) cards
known-as o origin cards found valid c has =
    let good : IsOwnValid (found_of o.found c).image = subst IsOwnValid (sym (origin.image c)) (valid c has) in
    by (known_of cards c).number (found.named c good) (found.told c good)
  where
    bytes : card_number_bytes (watched_as o c) ≡ number_in o c
    bytes = number-back (number_in (named_as o) c) (all-long o origin.long c) ∙ same-number o c (valid c has)

    by : (q : Option FullCardNumber) → IfSome q (λ n. card_number_bytes n ≡ (found_of o.found c).number) → is_some q ≡ true → q ≡ Some (watched_as o c)
    by None named told = absurd (cc)
    by (Some n) named told = ap (λ (m : FullCardNumber). Some m) (one-number n (watched_as o c) (named ∙ origin.number c (valid c has) ∙ sym bytes))
