-- Over devices that have one image each the opening finds what a run carries.
use Rattle.std.proofs.Common.{◌≡◌, ◌≢◌, ⊎_elim, ℕ, ◌/◌, ◌<◌, true, Option, Some, None, IfSome, IfOk, IfErr, List, [], ◌∷◌, is_some, Result, Ok, Err, refl, ap, subst, sym, ◌∙◌, arith}
use Rattle.trace_model.specs.declared.Card.{Card}
use Rattle.trace_model.specs.declared.Card.TheVariants.{A, B}
use Rattle.card_layout.specs.declared.files.Fid.{Fid}
use Rattle.card_layout.specs.declared.command.CardState.{CardState}
use Rattle.tacho_types.specs.declared.card_number.FullCardNumber.{FullCardNumber}
use Rattle.tacho_types.specs.CardNumber.{card_number_bytes, card_number_of}
use Rattle.tach_media.specs.Medium.{State, IsCoherent}
use Rattle.tach_media.proofs.Runs.{at_image}
use Rattle.card_model.specs.Days.{AreDays}
use Rattle.card_image.specs.Fields.{card_days}
use Rattle.card_image.specs.View.{CardView}
use Rattle.card_image.specs.Own.{own_view, own_sizes, own_number, own_bad_file, IsOwnValid}
use Rattle.unit_model.specs.Image.{last_kept}
use Rattle.unit_model.specs.Decoding.{Decodes, first_bad_place}
use Rattle.unit_memory.specs.Identified.{AreFacts}
use Rattle.unit_minutes.specs.Image.{IsFoundBy}
use Rattle.device_rule.specs.Views.{unit_view, owed}
use Rattle.unit_rule.specs.Rule.{started}
use Rattle.safety_model.specs.Recording.{Recording, card_image, unit_seen}
use Rattle.safety_model.specs.Safe.{Devices, card_of}
use Rattle.run_crew.specs.declared.cards.Known.{Known}
use Rattle.unit_rule.specs.OtherRows.{valid_number}
use Rattle.run_promise.specs.Found.{found_of, registration_of}
use Rattle.run_promise.specs.Between.{LedgerStands, IsFound, devices}
use Rattle.run_promise.specs.Opening.{BeginsAs, as_found, IsLookedAt, carried_first}
use Rattle.run_promise.proofs.Opening.{first-carried}
use Rattle.run_opening.specs.declared.fault.RunFault.{RunFault}
use Rattle.run_opening.specs.declared.fault.RunFault.TheVariants.{MediumFault, BadUnit, ClockBack, SameCard}
use Rattle.run_opening.specs.declared.opening.Opened.{Opened}
use Rattle.run_opening.specs.Units.{IsLoaded}
use Rattle.run_opening.specs.Cards.{number_by, IsKnownOfCard, IsFoundOn, AreTwo, HasNumber}
use Rattle.run_opening.specs.Opening.{IsAsItWas, MayGoOn, IsRefused}
use Rattle.run_opening.specs.Calls.{DevicesAreFound}
use Rattle.run_opening.specs.Begun.{Begin, no_number, named_by, name_of, found_in, known_of, RunIsOpened, IsRefusedBy, IsBegun}
use Rattle.run_opening.proofs.Told.{found-days}

told-one : (o p : Option (List ℕ)) → is_some p ≡ is_some o → is_some o ≡ true → (x : List ℕ) × (p ≡ Some x)
told-one o (Some x) same told = (x, refl)
told-one o None same told = absurd (let no = same ∙ told in cc)

-- A DEVICE that begins with one image has it still
module _ (x : List ℕ) (U V : State) (starts : BeginsAs x U) (before : IsCoherent U) (after : IsCoherent V) (was : IsAsItWas U V) where
  image : (y : List ℕ) × (V.image ≡ Some y)
  image = told-one U.image V.image was.leaves.tells (ap is_some starts.tells)

  now-one : (c : List ℕ) → V.may_leave c → c ≡ x
  now-one c left = ⊎_elim (λ is. starts.only c (before.counts_now U.clock c (omega arith) is)) (λ never. absurd never.2) (was.leaves.now c left)

  since-one : (c : List ℕ) → V.left_since U.clock c → c ≡ x
  since-one c left = ⊎_elim (λ is. starts.only c is) (λ never. absurd never.2) (was.leaves.since U.clock c (omega arith) left)

  pub image-is : V.image ≡ Some x
  image-is = image.1 ∙ ap Some (now-one image.0 (after.is_left image.0 image.1))

  pub begins-still : BeginsAs x V
  begins-still = record { tells = image-is; only = λ c left. since-one c (subst (λ (n : ℕ). V.left_since n c) was.clock left) }

-- THE NAMES of the cards
pub name-valid : (c : Card) (x : List ℕ) → IsOwnValid x → name_of c x ≡ own_number x
name-valid c x valid = ap (λ (o : Option (Fid × ℕ)). named_by o (own_number x) (no_number c)) valid

named : (c : Card) (x : List ℕ) (known : Known) → IsKnownOfCard x known → (o : Option (Fid × ℕ)) → own_bad_file x ≡ o → IfSome known.number (λ n. card_number_bytes n ≡ name_of c x)
named c x known told None valid = subst (λ (l : List ℕ). IfSome known.number (λ n. card_number_bytes n ≡ l)) (sym (name-valid c x valid)) told.bytes
named c x known told (Some place) bad =
    subst (λ (o : Option FullCardNumber). IfSome o (λ n. card_number_bytes n ≡ name_of c x)) (sym (told.number ∙ ap (λ (o : Option (Fid × ℕ)). number_by o (card_number_of (own_number x))) bad)) tt

-- a valid card has told its number
number-told : (x : List ℕ) (known : Known) → IsKnownOfCard x known → IsOwnValid x → known.number ≡ Some (card_number_of (own_number x))
number-told x known told valid = told.number ∙ ap (λ (o : Option (Fid × ℕ)). number_by o (card_number_of (own_number x))) valid

number-bytes : (x : List ℕ) (known : Known) → IsKnownOfCard x known → IsOwnValid x → card_number_bytes (card_number_of (own_number x)) ≡ own_number x
number-bytes x known told valid = subst (λ (o : Option FullCardNumber). IfSome o (λ n. card_number_bytes n ≡ own_number x)) (number-told x known told valid) told.bytes

never-empty : (n : FullCardNumber) → card_number_bytes n ≡ [] → ⊥
never-empty n is = cc

never-short : (n : FullCardNumber) → card_number_bytes n ≡ 0 ∷ [] → ⊥
never-short n is = cc

module _ (a b : List ℕ) (first second : Known) (told_a : IsKnownOfCard a first) (told_b : IsKnownOfCard b second) (two : AreTwo first.number second.number) where
  two-names : (o p : Option (Fid × ℕ)) → own_bad_file a ≡ o → own_bad_file b ≡ p → name_of A a ≢ name_of B b
  two-names None None a_is b_is same =
      let one : own_number a ≡ own_number b = sym (name-valid A a a_is) ∙ same ∙ name-valid B b b_is in
      two (card_number_of (own_number a)) (number-told a first told_a a_is) (number-told b second told_b b_is ∙ ap (λ (l : List ℕ). Some (card_number_of l)) (sym one))
  two-names None (Some q) a_is b_is same =
      never-short (card_number_of (own_number a)) (number-bytes a first told_a a_is ∙ sym (name-valid A a a_is) ∙ same ∙ ap (λ (o : Option (Fid × ℕ)). named_by o (own_number b) (0 ∷ [])) b_is)
  two-names (Some p) None a_is b_is same =
      never-empty (card_number_of (own_number b)) (number-bytes b second told_b b_is ∙ sym (name-valid B b b_is) ∙ sym same ∙ ap (λ (o : Option (Fid × ℕ)). named_by o (own_number a) []) a_is)
  two-names (Some p) (Some q) a_is b_is same =
      let left : name_of A a ≡ [] = ap (λ (o : Option (Fid × ℕ)). named_by o (own_number a) []) a_is in
      let right : name_of B b ≡ 0 ∷ [] = ap (λ (o : Option (Fid × ℕ)). named_by o (own_number b) (0 ∷ [])) b_is in
      let no = sym left ∙ same ∙ right in
      cc

-- WHAT IS OWED to a card goes by its own name alone
owed-first : (m n k u : List ℕ) (v : CardView) → owed A (unit_view m n u) v ≡ owed A (unit_view m k u) v
unfolding unit_view
owed-first m n k u v = refl

owed-second : (m n k u : List ℕ) (v : CardView) → owed B (unit_view m n u) v ≡ owed B (unit_view k n u) v
unfolding unit_view
owed-second m n k u v = refl

start-first : (m n p q u x : List ℕ) → p ≡ m → as_found A (unit_view m n u) x ≡ as_found A (unit_view p q u) x
start-first m n p q u x is = ap (λ es. record { entries = (own_view x).held.entries; owed = es; mark = (own_view x).mark; word = (as_found A (unit_view m n u) x).word }) (owed-first m n q u (own_view x)) ∙ ap (λ (l : List ℕ). as_found A (unit_view l q u) x) (sym is)

start-second : (m n p q u x : List ℕ) → q ≡ n → as_found B (unit_view m n u) x ≡ as_found B (unit_view p q u) x
start-second m n p q u x is = ap (λ es. record { entries = (own_view x).held.entries; owed = es; mark = (own_view x).mark; word = (as_found B (unit_view m n u) x).word }) (owed-second m n p u (own_view x)) ∙ ap (λ (l : List ℕ). as_found B (unit_view p l u) x) (sym is)

-- THE RUN BEGINS
module _ (r : Recording) (start : ℕ) (old new : Devices) (unit_before : IsCoherent old.unit) (unit_after : IsCoherent new.unit)
    (cards_before : (c : Card) → IsCoherent (card_of old c)) (cards_after : (c : Card) → IsCoherent (card_of new c))
    (unit_was : IsAsItWas old.unit new.unit) (cards_were : (c : Card) → IsAsItWas (card_of old c) (card_of new c)) (begins : Begin r old) where
  unit-image : new.unit.image ≡ Some r.unit
  unit-image = image-is r.unit old.unit new.unit begins.unit unit_before unit_after unit_was

  card-told : (c : Card) → (card_of new c).image ≡ Some (card_image r c)
  card-told c = image-is (card_image r c) (card_of old c) (card_of new c) (begins.card c) (cards_before c) (cards_after c) (cards_were c)

  begin-still : Begin r new
  begin-still = record {
    unit = begins-still r.unit old.unit new.unit begins.unit unit_before unit_after unit_was;
    card = λ c. begins-still (card_image r c) (card_of old c) (card_of new c) (begins.card c) (cards_before c) (cards_after c) (cards_were c);
  }

  image-found : (c : Card) → (found_of (found_in r old) c).image ≡ card_image r c
  image-found A = refl
  image-found B = refl

  began-found : (c : Card) → (found_of (found_in r old) c).began ≡ (card_of old c).clock
  began-found A = refl
  began-found B = refl

  named-found : (c : Card) → (found_of (found_in r old) c).number ≡ name_of c (card_image r c)
  named-found A = refl
  named-found B = refl

  module _ (opened : Opened) (on : Card → CardState) (loaded : IsLoaded new.unit opened.unit.journal) (identity : IfSome new.unit.image (AreFacts opened.unit.memory)) (later : opened.unit.journal.kept < start / 60)
      (found : (c : Card) → IsFoundOn (known_of opened c) (on c) (card_of new c)) (two : AreTwo opened.card_a.number opened.card_b.number) where
    decodes : Decodes r.unit
    decodes = at_image Decodes unit-image loaded.decodes

    journal : IsFoundBy opened.unit.journal r.unit
    journal = at_image (IsFoundBy opened.unit.journal) unit-image loaded.found

    told : (c : Card) → IsKnownOfCard (card_image r c) (known_of opened c)
    told c = at_image (λ x. IsKnownOfCard x (known_of opened c)) (card-told c) (found c).told

    days : (c : Card) → IsOwnValid (card_image r c) → AreDays 0 (card_days (own_sizes (card_image r c)) (card_image r c))
    days c valid = found-days (card_image r c) (known_of opened c) (on c) (card_of new c) (found c) (cards_after c) (card-told c) (told c) valid

    names : name_of A r.card_a ≢ name_of B r.card_b
    names = two-names r.card_a r.card_b opened.card_a opened.card_b (told A) (told B) two (own_bad_file r.card_a) (own_bad_file r.card_b) refl refl

    is-found : IsFound r (found_in r old) old
    is-found = record {
      unit = refl;
      image = image-found;
      start = starts;
      clock = began-found;
      number = λ c valid. named-found c ∙ name-valid c (card_image r c) valid;
      vehicle = vehicle;
      days = days;
    }
      where
        starts : (c : Card) → (found_of (found_in r old) c).start ≡ as_found c (unit_seen r r.unit) (card_image r c)
        starts A = refl
        starts B = refl

        vehicle : (c : Card) → (found_of (found_in r old) c).vehicle ≡ registration_of r.unit
        vehicle A = refl
        vehicle B = refl

    looked-start : (c : Card) → IsOwnValid (card_image r c) → (found_of (found_in r old) c).start ≡ as_found c (unit_view (name_of A r.card_a) (name_of B r.card_b) r.unit) (card_image r c)
    looked-start A valid = start-first (own_number r.card_a) (own_number r.card_b) (name_of A r.card_a) (name_of B r.card_b) r.unit r.card_a (name-valid A r.card_a valid)
    looked-start B valid = start-second (own_number r.card_a) (own_number r.card_b) (name_of A r.card_a) (name_of B r.card_b) r.unit r.card_b (name-valid B r.card_b valid)

    looked : (c : Card) → IsOwnValid (card_image r c) → IsLookedAt (found_in r old) c r.unit (card_image r c) (card_of new c).clock
    looked c valid = record { image = image-found c; start = looked-start c valid; began = began-found c ∙ sym (cards_were c).clock; days = days c valid }

    carried : (due : ℕ) → last_kept r.unit < due → LedgerStands (found_in r old) (carried_first due) new
    carried due late = first-carried (found_in r old) r.unit due (card_image r) new unit_after cards_after begin-still.unit begin-still.card decodes late (ap (started r.unit (valid_number r.card_a) (valid_number r.card_b)) (sym unit_was.clock)) image-found looked

    numbers : IsOwnValid r.card_a → IsOwnValid r.card_b → own_number r.card_a ≢ own_number r.card_b
    numbers a_valid b_valid same = names (name-valid A r.card_a a_valid ∙ same ∙ sym (name-valid B r.card_b b_valid))

    late-start : last_kept r.unit < start / 60
    late-start = let is = journal.kept in omega (arith, is, later)

    pub ready : RunIsOpened r start opened old new
    ready = record {
      begins = begin-still;
      decodes = decodes;
      later = late-start;
      journal = journal;
      memory = at_image (AreFacts opened.unit.memory) unit-image identity;
      told = told;
      named = λ c. subst (λ (l : List ℕ). IfSome (known_of opened c).number (λ n. card_number_bytes n ≡ l)) (sym (named-found c)) (named c (card_image r c) (known_of opened c) (told c) (own_bad_file (card_image r c)) refl);
      two = names;
      found = is-found;
      looked = looked;
      carried = carried;
      may = λ at. record { decodes = decodes; clock = λ s is. let number = at s is in subst (λ (n : ℕ). last_kept r.unit < n / 60) (sym number) late-start; numbers = numbers };
    }

  -- OR IS REFUSED
  went-on : MayGoOn start new.unit → Decodes r.unit × (last_kept r.unit < start / 60)
  went-on on = at_image (λ x. Decodes x × (last_kept x < start / 60)) unit-image on

  numbered : (c : Card) (number : FullCardNumber) → HasNumber number (card_of new c) → IsOwnValid (card_image r c) × (own_number (card_image r c) ≡ card_number_bytes number)
  numbered c number has = at_image (λ x. IsOwnValid x × (own_number x ≡ card_number_bytes number)) (card-told c) has

  pub refused : (fault : RunFault) → IsRefused start old new fault → IsRefusedBy r start old new fault
  refused (MediumFault device) why = why.0
  refused (BadUnit place) why = at_image (λ x. first_bad_place x ≡ Some place) unit-image why
  refused (ClockBack kept second) why =
      let is = at_image (λ x. Decodes x × (last_kept x ≡ kept)) unit-image why.2 in
      (is.0, is.1, why.0, why.1)
  refused (SameCard number) why = ((went-on why.0).0, (went-on why.0).1, each)
    where
      each : (c : Card) → IsOwnValid (card_image r c) × (own_number (card_image r c) ≡ card_number_bytes number)
      each A = numbered A number why.1
      each B = numbered B number why.2

-- what an opening says of three devices
each : (P : Card → Type 0) → P A → P B → (c : Card) → P c
each P first second A = first
each P first second B = second

abbrev on_card : CardState → CardState → Card → CardState
on_card a b A = a
on_card a b B = b

module _ (r : Recording) (start : ℕ) (U V P Q S T : State) (U_whole : IsCoherent U) (V_whole : IsCoherent V) (P_whole : IsCoherent P) (Q_whole : IsCoherent Q) (S_whole : IsCoherent S) (T_whole : IsCoherent T)
    (unit_was : IsAsItWas U V) (a_was : IsAsItWas P Q) (b_was : IsAsItWas S T) (begins : Begin r (devices U P S)) where
  before : (c : Card) → IsCoherent (card_of (devices U P S) c)
  before = each (λ c. IsCoherent (card_of (devices U P S) c)) P_whole S_whole

  after : (c : Card) → IsCoherent (card_of (devices V Q T) c)
  after = each (λ c. IsCoherent (card_of (devices V Q T) c)) Q_whole T_whole

  were : (c : Card) → IsAsItWas (card_of (devices U P S) c) (card_of (devices V Q T) c)
  were = each (λ c. IsAsItWas (card_of (devices U P S) c) (card_of (devices V Q T) c)) a_was b_was

  pub begun : (on_a on_b : CardState) (result : Result Opened RunFault) → IfOk result (DevicesAreFound start V Q T on_a on_b) → IfErr result (IsRefused start (devices U P S) (devices V Q T)) → IsBegun r start (devices U P S) (devices V Q T) result
  begun on_a on_b (Ok o) finds why =
      ready r start (devices U P S) (devices V Q T) U_whole V_whole before after unit_was were begins o (on_card on_a on_b) finds.unit.loaded finds.unit.facts finds.unit.later
      (each (λ c. IsFoundOn (known_of o c) (on_card on_a on_b c) (card_of (devices V Q T) c)) finds.card_a finds.card_b) finds.two
  begun on_a on_b (Err fault) finds why = refused r start (devices U P S) (devices V Q T) U_whole V_whole before after unit_was were begins fault why
