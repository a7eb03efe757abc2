-- What a note changes lies among the places of its type.
use Rattle.std.proofs.Common.{◌≡◌, inl, inr, ⊎_elim, ℕ, false, ◌<◌, Option, Some, None, IfSome, List, [], ◌∷◌, refl, sym, subst, arith}
use Rattle.card_layout.specs.Images.{SameOutside}
use Rattle.card_layout.proofs.Images.{outside_same, outside_wider}
use Rattle.tach_media.specs.Medium.{State, Reads, StaysSettled}
use Rattle.tach_media.proofs.Runs.{still_settled}
use Rattle.gated_ring.specs.Ring.{Shape, size_of, place_of}
use Rattle.gated_ring.specs.Change.{IsReplaced, IsReplacingEntry, IsSet, OrUnwritten}
use Rattle.gated_ring.proofs.Places.{place_low, place_high}
use Rattle.event_model.specs.Kinds.{places_of}
use Rattle.note_model.specs.Tables.{table_of}
use Rattle.unit_notes.specs.Tables.{place_taken, place_of_day, similar_next, similar_place, with_similar}
use Rattle.unit_notes.specs.Noting.{IsNotedAt, IsNotingAt, IsNotingEvent, IsEventNoted}

module _ (r : Shape) (i : ℕ) (below : i < r.count) (x c : List ℕ) where
  -- what changes one place changes the ring alone
  pub wider : SameOutside (place_of r i) r.width x c → SameOutside r.base (size_of r) x c
  wider same = outside_wider r.base (size_of r) (place_of r i) r.width x c same (omega (arith, place_low r i)) (place_high r i below)

  pub replacing_outside : (head : List ℕ) → IsReplacingEntry r i head x c → SameOutside r.base (size_of r) x c
  replacing_outside head (inl same) = subst (λ (l : List ℕ). SameOutside r.base (size_of r) x l) (sym same) (outside_same r.base (size_of r) x)
  replacing_outside head (inr (inl absent)) = wider absent.outside
  replacing_outside head (inr (inr replaced)) = wider replaced.outside

  pub setting_outside : (o : ℕ) (bytes : List ℕ) → OrUnwritten (IsSet r i o bytes) x c → SameOutside r.base (size_of r) x c
  setting_outside o bytes (inl same) = subst (λ (l : List ℕ). SameOutside r.base (size_of r) x l) (sym same) (outside_same r.base (size_of r) x)
  setting_outside o bytes (inr set) = wider set.outside

-- ---- from what a ring's call says to what a note says

module _ (kind : ℕ) (front x c : List ℕ) where
  pub noting_place : (i similar : ℕ) (day : Option ℕ) (head : List ℕ) → i < places_of kind → Some i ≡ place_taken kind front x → day ≡ place_of_day kind front x
      → similar ≡ similar_next kind x day → head ≡ with_similar kind similar front → IsReplacingEntry (table_of kind) i head x c → IsNotingEvent kind front x c
  noting_place i similar day head below place of_day counted is entry =
      let whole : IsReplacingEntry (table_of kind) i (with_similar kind (similar_next kind x day) front) x c =
      subst (λ (n : ℕ). IsReplacingEntry (table_of kind) i (with_similar kind n front) x c) counted (subst (λ (h : List ℕ). IsReplacingEntry (table_of kind) i h x c) is entry) in
      record {
        outside = replacing_outside (table_of kind) i below x c head entry;
        entry = subst (λ (d : Option ℕ). IsNotingAt kind front x (place_taken kind front x) d c) of_day (subst (λ (p : Option ℕ). IsNotingAt kind front x p day c) place whole);
      }

  pub noted_place : (i similar : ℕ) (day : Option ℕ) (head : List ℕ) → i < places_of kind → Some i ≡ place_taken kind front x → day ≡ place_of_day kind front x
      → similar ≡ similar_next kind x day → head ≡ with_similar kind similar front → IsReplaced (table_of kind) i head x c → IsEventNoted kind front x c
  noted_place i similar day head below place of_day counted is entry =
      let whole : IsReplaced (table_of kind) i (with_similar kind (similar_next kind x day) front) x c =
      subst (λ (n : ℕ). IsReplaced (table_of kind) i (with_similar kind n front) x c) counted (subst (λ (h : List ℕ). IsReplaced (table_of kind) i h x c) is entry) in
      record {
        outside = wider (table_of kind) i below x c entry.outside;
        entry = subst (λ (d : Option ℕ). IsNotedAt kind front x (place_taken kind front x) d c) of_day (subst (λ (p : Option ℕ). IsNotedAt kind front x p day c) place whole);
      }

  pub noting_day : (i similar o : ℕ) → i < places_of kind → None ≡ place_taken kind front x → Some i ≡ place_of_day kind front x
      → similar ≡ similar_next kind x (Some i) → o ≡ similar_place kind → OrUnwritten (IsSet (table_of kind) i o (similar ∷ [])) x c → IsNotingEvent kind front x c
  noting_day i similar o below place of_day counted at entry =
      let whole : OrUnwritten (IsSet (table_of kind) i (similar_place kind) (similar_next kind x (Some i) ∷ [])) x c =
      subst (λ (n : ℕ). OrUnwritten (IsSet (table_of kind) i (similar_place kind) (n ∷ [])) x c) counted (subst (λ (p : ℕ). OrUnwritten (IsSet (table_of kind) i p (similar ∷ [])) x c) at entry) in
      record {
        outside = setting_outside (table_of kind) i below x c o (similar ∷ []) entry;
        entry = subst (λ (d : Option ℕ). IsNotingAt kind front x (place_taken kind front x) d c) of_day (subst (λ (p : Option ℕ). IsNotingAt kind front x p (Some i) c) place whole);
      }

  pub noted_day : (i similar o : ℕ) → i < places_of kind → None ≡ place_taken kind front x → Some i ≡ place_of_day kind front x
      → similar ≡ similar_next kind x (Some i) → o ≡ similar_place kind → IsSet (table_of kind) i o (similar ∷ []) x c → IsEventNoted kind front x c
  noted_day i similar o below place of_day counted at entry =
      let whole : IsSet (table_of kind) i (similar_place kind) (similar_next kind x (Some i) ∷ []) x c =
      subst (λ (n : ℕ). IsSet (table_of kind) i (similar_place kind) (n ∷ []) x c) counted (subst (λ (p : ℕ). IsSet (table_of kind) i p (similar ∷ []) x c) at entry) in
      record {
        outside = wider (table_of kind) i below x c entry.outside;
        entry = subst (λ (d : Option ℕ). IsNotedAt kind front x (place_taken kind front x) d c) of_day (subst (λ (p : Option ℕ). IsNotedAt kind front x p (Some i) c) place whole);
      }

  pub noted_none : None ≡ place_taken kind front x → None ≡ place_of_day kind front x → c ≡ x → IsEventNoted kind front x c
  noted_none place of_day same =
      let n : Option ℕ = None in
      record {
        outside = subst (λ (l : List ℕ). SameOutside (table_of kind).base (size_of (table_of kind)) x l) (sym same) (outside_same (table_of kind).base (size_of (table_of kind)) x);
        entry = subst (λ (d : Option ℕ). IsNotedAt kind front x (place_taken kind front x) d c) of_day (subst (λ (p : Option ℕ). IsNotedAt kind front x p n c) place same);
      }

-- ---- behind reads

-- what holds of the images before and after a call holds of the one before the reads
pub told_both : (o m n : Option (List ℕ)) (R S : List ℕ → List ℕ → Type 0) → m ≡ o → IfSome m (λ x. IfSome n (R x)) → ((x y : List ℕ) → o ≡ Some x → R x y → S x y) → IfSome o (λ x. IfSome n (S x))
told_both None m n R S same said all = tt
told_both (Some x) m n R S same said all = each n (subst (λ (p : Option (List ℕ)). IfSome p (λ z. IfSome n (R z))) same said)
  where
    each : (k : Option (List ℕ)) → IfSome k (R x) → IfSome k (S x)
    each None here = tt
    each (Some y) here = all x y refl here

pub settled_reads : {old new : State} → Reads old new false → StaysSettled old new
settled_reads {old} {new} reads was known = ⊎_elim (λ more. absurd (omega (arith, more, reads.clock))) (λ is. still_settled reads is) was

-- what holds of an image and itself
pub told_same : (o : Option (List ℕ)) (R : List ℕ → List ℕ → Type 0) → ((x : List ℕ) → o ≡ Some x → R x x) → IfSome o (λ x. IfSome o (R x))
told_same None R all = tt
told_same (Some x) R all = all x refl
