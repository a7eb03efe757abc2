-- The fronts of entries that calls write: their length, and the begin in them.
use Rattle.std.proofs.Common.{◌≡◌, ◌≢◌, ℕ, true, false, List, [], ◌∷◌, ◌++◌, length, take, append_assoc, refl, sym, ◌∙◌, ap, subst}
use Rattle.std.specs.Prelude.{nat_eq, ◌==◌, ◌&&◌, not, IsTrue}
use Rattle.std.proofs.lemmas.Bool.{eqb-true}
use Rattle.std.proofs.lemmas.List.{drop_at}
use Rattle.activity_codec.proofs.ByTest.{by_test}
use Rattle.card_layout.specs.Fields.{joined}
use Rattle.card_layout.specs.Images.{big_number, number_at}
use Rattle.event_model.specs.Kinds.{is_event}
use Rattle.note_model.specs.Tables.{held_in}
use Rattle.unit_notes.specs.Tables.{front_size}
use Rattle.unit_notes.proofs.Types.{begin_is}

-- the front of an event has 82 bytes
pub event_front : (kind : ℕ) → IsTrue (is_event kind && not (kind == 7)) → 82 ≡ front_size kind
event_front kind holds =
    by_test (nat_eq kind 7)
    (λ over. absurd (let h : false ≡ true = subst (λ (k : ℕ). IsTrue (is_event k && not (k == 7))) (eqb-true kind 7 over) holds in cc))
    (λ other. by_test (nat_eq kind 64)
    (λ fault. absurd (let h : false ≡ true = subst (λ (k : ℕ). IsTrue (is_event k && not (k == 7))) (eqb-true kind 64 fault) holds in cc))
    (λ event. rw (other, event) refl))

pub fault_front : (kind : ℕ) → kind ≡ 64 → 82 ≡ front_size kind
fault_front kind is = subst (λ (k : ℕ). 82 ≡ front_size k) (sym is) refl

-- what its entry tells is not 0 where the begin in it is not
pub front_begins : (kind : ℕ) (front : List ℕ) (begin : ℕ) → number_at front 2 4 ≡ begin → begin ≢ 0 → (held_in kind front).begin ≢ 0
front_begins kind front begin stands some zero = some (sym (begin_is front kind ∙ stands) ∙ zero)

-- ---- entries in two parts

pub joined_append : (xs ys : List (List ℕ)) → joined (xs ++ ys) ≡ joined xs ++ joined ys
joined_append [] ys = refl
joined_append (x ∷ xs) ys = ap (λ (l : List ℕ). x ++ l) (joined_append xs ys) ∙ sym (append_assoc x (joined xs) (joined ys))

-- a number behind a part
pub number_behind : (front back : List ℕ) (place : ℕ) → length front ≡ place → number_at (front ++ back) place 4 ≡ number_at back 0 4
number_behind front back place long = ap (λ (l : List ℕ). big_number 4 (take 4 l)) (drop_at front back place long)
