-- A run over devices that have one image each (profile): what the opening finds of them is what the run carries; or why
-- it does not begin.
use Rattle.std.specs.Prelude.{◌≡◌, ◌≢◌, ℕ, ◌/◌, ◌<◌, ◌≤◌, Option, Some, None, Result, Ok, Err, IfSome, List, [], ◌∷◌}
use Rattle.trace_model.specs.declared.Card.{Card}
use Rattle.trace_model.specs.declared.Card.TheVariants.{A, B}
use Rattle.trace_model.specs.Trace.{TraceSecond}
use Rattle.card_layout.specs.declared.files.Fid.{Fid}
use Rattle.tacho_types.specs.CardNumber.{card_number_bytes}
use Rattle.tach_media.specs.Medium.{Rose}
use Rattle.card_image.specs.Own.{own_number, own_bad_file, IsOwnValid}
use Rattle.unit_model.specs.Image.{last_kept}
use Rattle.unit_model.specs.Decoding.{Decodes, first_bad_place}
use Rattle.unit_memory.specs.Identified.{AreFacts}
use Rattle.unit_minutes.specs.Image.{IsFoundBy}
use Rattle.safety_model.specs.Recording.{Recording, card_image, unit_seen}
use Rattle.safety_model.specs.Safe.{Devices, card_of, MayBegin, first_of}
use Rattle.unit_rule.specs.Rule.{started}
use Rattle.run_crew.specs.declared.cards.Known.{Known}
use Rattle.unit_rule.specs.OtherRows.{valid_number}
use Rattle.run_promise.specs.Found.{CardFound, Found, found_of, registration_of}
use Rattle.run_promise.specs.Between.{LedgerStands, IsFound}
use Rattle.run_promise.specs.Opening.{BeginsAs, as_found, IsLookedAt, carried_first}
use Rattle.run_opening.specs.declared.fault.RunFault.{RunFault}
use Rattle.run_opening.specs.declared.fault.RunFault.TheVariants.{MediumFault, BadUnit, ClockBack, SameCard}
use Rattle.run_opening.specs.declared.opening.Opened.{Opened}
use Rattle.run_opening.specs.Cards.{IsKnownOfCard}
use Rattle.run_opening.specs.Opening.{faults_of}

-- each device begins with its image of the recording alone
pub record Begin (r : Recording) (d : Devices) : Type 0 where
  pub unit : BeginsAs r.unit d.unit
  pub card : (c : Card) → BeginsAs (card_image r c) (card_of d c)

-- what names a card that is not valid: no card's number is so short, and the two are not one
abbrev pub no_number : Card → List ℕ
no_number A = []
no_number B = 0 ∷ []

-- a card is named by its number, where none of its files fails
abbrev pub named_by : (bad : Option (Fid × ℕ)) → (number none : List ℕ) → List ℕ
named_by None number none = number
named_by (Some place) number none = none

-- the name of a card by this image: its number where the card is valid
abbrev pub name_of : Card → List ℕ → List ℕ
name_of c x = named_by (own_bad_file x) (own_number x) (no_number c)

-- what is found of a card, at this clock
abbrev pub card_found : Recording → Card → (clock : ℕ) → CardFound
card_found r c clock = record {
  image = card_image r c;
  start = as_found c (unit_seen r r.unit) (card_image r c);
  number = name_of c (card_image r c);
  began = clock;
  vehicle = registration_of r.unit;
}

-- WHAT THE OPENING FINDS of these devices
abbrev pub found_in : Recording → Devices → Found
found_in r d = record {
  unit = started r.unit (valid_number r.card_a) (valid_number r.card_b) d.unit.clock;
  card_a = card_found r A d.card_a.clock;
  card_b = card_found r B d.card_b.clock;
}

-- what is known of a card
abbrev pub known_of : Opened → Card → Known
known_of opened A = opened.card_a
known_of opened B = opened.card_b

-- the trace's first second, if it has one, is this
abbrev pub StartsAt : Recording → ℕ → Type 0
StartsAt r start = (s : TraceSecond) → first_of r.trace ≡ Some s → s.number ≡ start

-- THE RUN BEGINS: the devices begin as they did; journal, memory and cards are those of the images; the cards have two
-- names, and a number that was told is the card's name; and what was found is carried, from any minute on that is later
-- than the last-kept one.
pub record RunIsOpened (r : Recording) (start : ℕ) (opened : Opened) (old new : Devices) : Type 0 where
  pub begins : Begin r new
  pub decodes : Decodes r.unit
  pub later : last_kept r.unit < start / 60
  pub journal : IsFoundBy opened.unit.journal r.unit
  pub memory : AreFacts opened.unit.memory r.unit
  pub told : (c : Card) → IsKnownOfCard (card_image r c) (known_of opened c)
  pub named : (c : Card) → IfSome (known_of opened c).number
      (λ n. card_number_bytes n ≡ (found_of (found_in r old) c).number)
  pub two : (found_in r old).card_a.number ≢ (found_in r old).card_b.number
  pub found : IsFound r (found_in r old) old
  pub looked : (c : Card) → IsOwnValid (card_image r c)
      → IsLookedAt (found_in r old) c r.unit (card_image r c) (card_of new c).clock
  pub carried : (due : ℕ) → last_kept r.unit < due → LedgerStands (found_in r old) (carried_first due) new
  pub may : StartsAt r start → MayBegin r

-- THE RUN IS REFUSED: a device failed; or exactly by the images of the recording
abbrev pub IsRefusedBy : Recording → (start : ℕ) → (old new : Devices) → RunFault → Type 0
IsRefusedBy r start old new (MediumFault device) = Rose (faults_of old device) (faults_of new device)
IsRefusedBy r start old new (BadUnit place) = first_bad_place r.unit ≡ Some place
IsRefusedBy r start old new (ClockBack kept second) = Decodes r.unit × (last_kept r.unit ≡ kept) × (second ≡ start)
    × (start / 60 ≤ kept)
IsRefusedBy r start old new (SameCard number) =
    Decodes r.unit × (last_kept r.unit < start / 60)
    × ((c : Card) → IsOwnValid (card_image r c) × (own_number (card_image r c) ≡ card_number_bytes number))

-- WHAT THE OPENING ENDS WITH: the run begins, or it is refused
abbrev pub IsBegun : Recording → (start : ℕ) → (old new : Devices) → Result Opened RunFault → Type 0
IsBegun r start old new (Ok opened) = RunIsOpened r start opened old new
IsBegun r start old new (Err fault) = IsRefusedBy r start old new fault
