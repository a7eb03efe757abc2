-- A unit file at the front of a source, and a unit file alone.
use Rattle.std.proofs.Common.{◌≡◌, ◌∙◌, ⊎_elim, ℕ, suc, ◌<◌, ◌≤◌, true, List, [], ◌∷◌, ◌++◌, length, map, take, drop, refl, ap, sym, subst, arith, All, append-nil}
use Rattle.std.proofs.Math.Seq.{take-append_seam}
use Rattle.std.proofs.lemmas.List.{take-append-drop, drop_all, length-drop}
use Rattle.card_layout.specs.Fields.{joined}
use Rattle.message_model.specs.Messages.{Message, message_bytes, IsMessage, IsUnitFile}
use Rattle.message_model.proofs.Reading.{one_way}
use Rattle.file_view.specs.UnitFiles.{IsBadUnitFile}
use Rattle.file_view.specs.Fronts.{begins_message, IsFront, IsBadFront}
use Rattle.file_view.specs.declared.front.FrontRead.{FrontRead}
use Rattle.file_view.proofs.UnitOneWay.{unit_does_not_fail}
use Rattle.card_match.specs.Files.{LacksOverview, IsBadUnit, AreParts}

all_rest : (m : Message) (ms : List Message) → All IsMessage (m ∷ ms) → All IsMessage ms
all_rest m ms all = λ k d low. all (suc k) d (omega (arith, low))

-- messages stand in one way
one_list : (E F : List Message) → All IsMessage E → All IsMessage F → joined (map message_bytes E) ≡ joined (map message_bytes F) → E ≡ F
one_list [] [] are are_too is = refl
one_list [] (f ∷ fs) are are_too is = absurd (cc)
one_list (e ∷ es) [] are are_too is = absurd (cc)
one_list (e ∷ es) (f ∷ fs) are are_too is =
    let same = one_way e f (joined (map message_bytes es)) (joined (map message_bytes fs)) (are 0 e (omega arith)) (are_too 0 f (omega arith)) is in
    ap (λ (m : Message). m ∷ es) same.0 ∙ ap (λ (l : List Message). f ∷ l) (one_list es fs (all_rest e es are) (all_rest f fs are_too) same.1)

pub one_file : (E F : List Message) (bytes : List ℕ) → IsUnitFile E bytes → IsUnitFile F bytes → E ≡ F
one_file E F bytes one other = one_list E F one.each other.each (sym one.spelled ∙ other.spelled)

-- no unit file at the front, none at all
pub front_bad : (place : ℕ) (bytes : List ℕ) → IsBadFront place bytes → IsBadUnitFile place bytes
front_bad place bytes bad = record {
  messages = bad.messages;
  rest = bad.rest;
  each = bad.each;
  spelled = bad.spelled;
  place_is = bad.place_is;
  stuck = bad.stuck;
  stands = λ none. ⊎_elim (λ first. first) (λ wanted. absurd (let more : begins_message [] ≡ true = subst (λ (l : List ℕ). begins_message l ≡ true) none wanted in cc)) bad.wanted;
}

-- something stands behind it
pub front_short : (bytes : List ℕ) (f : FrontRead) → IsFront bytes f → f.end < length bytes → IsBadUnitFile f.end bytes
front_short bytes f front more = record {
  messages = front.messages;
  rest = drop f.end bytes;
  each = front.leads.each;
  spelled = front.leads.spelled;
  place_is = front.leads.end_is;
  stuck = λ m rest is spelled. let begun : begins_message (drop f.end bytes) ≡ true = ap begins_message spelled in let not_so = front.ends in absurd (cc);
  stands = λ none. absurd (omega (arith, more, length-drop f.end bytes, ap (λ (l : List ℕ). length l) none));
}

-- all of it
pub front_whole : (bytes : List ℕ) (f : FrontRead) → (front : IsFront bytes f) → length bytes ≤ f.end → IsUnitFile front.messages bytes
front_whole bytes f front all = record {
  some = front.some;
  each = front.leads.each;
  spelled = front.leads.spelled ∙ ap (λ (l : List ℕ). joined (map message_bytes front.messages) ++ l) (drop_all f.end bytes all) ∙ append-nil (joined (map message_bytes front.messages));
}

-- the parts of a source
front_part : (bytes : List ℕ) (f : FrontRead) → (front : IsFront bytes f) → IsUnitFile front.messages (take f.end bytes)
front_part bytes f front = record {
  some = front.some;
  each = front.leads.each;
  spelled =
      ap (λ (n : ℕ). take n bytes) front.leads.end_is
      ∙ ap (λ (l : List ℕ). take (length (joined (map message_bytes front.messages))) l) front.leads.spelled
      ∙ take-append_seam (joined (map message_bytes front.messages)) (drop f.end bytes);
}

pub parts_are : (bytes : List ℕ) (f : FrontRead) → IsFront bytes f → AreParts bytes (take f.end bytes) (drop f.end bytes)
parts_are bytes f front = record { parts = sym (take-append-drop f.end bytes); messages = front.messages; file = front_part bytes f front; ends = front.ends }

-- a unit file that is there is refused for want of an overview alone
pub lacks_only : (bytes unit card : List ℕ) (place : ℕ) → AreParts bytes unit card → IsBadUnit place unit → (place ≡ length unit) × LacksOverview unit
lacks_only bytes unit card place are bad = ⊎_elim (λ fails. absurd (unit_does_not_fail are.messages unit place are.file fails)) (λ lacks. lacks) bad
