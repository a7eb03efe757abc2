-- What a call of the unit leaves at its end, and what an image of it shows, and was issued with.
use Rattle.std.proofs.Common.{◌≡◌, ◌⊎◌, inl, inr, ℕ, ◌+◌, ◌≤◌, true, Option, Some, None, List, ◌++◌, IfSome, is_some, take, drop, refl, ap, sym, subst, ◌∙◌, arith}
use Rattle.std.proofs.lemmas.List.{take-take, drop-take, drop-drop}
use Rattle.tach_media.specs.Medium.{State, IsCoherent, LeavesOnly, bytes_at}
use Rattle.unit_minutes.specs.unit_model.declared.layout.TheConstants.{LAST_KEPT, SPARE_COUNTS, SPARE_ROWS, SPARE_FAULTS}
use Rattle.unit_minutes.specs.unit_model.Image.{last_kept, recorded}
use Rattle.unit_minutes.proofs.unit_model.Numbers.{part_in}
use Rattle.unit_minutes.specs.Keeping.{SameBesides}
use Rattle.safety_model.specs.device_rule.Views.{unit_view}
use Rattle.safety_model.specs.Unit.{issued_bytes}

-- after a run that ended well a stop leaves the image alone, and what is said of it holds
pub ended : {old new : State} {Q : List ℕ → List ℕ → Type 0} (R : List ℕ → List ℕ → Type 0) → IsCoherent old → IsCoherent new → new.works ≡ true → LeavesOnly old new Q → IfSome old.image (λ x. IfSome new.image (R x)) → (c : List ℕ) → new.may_leave c → (x : List ℕ) × old.may_leave x × R x c
ended {old} {new} {Q} R before after works run said c left = go old.image refl
  where
    is : new.image ≡ Some c
    is = after.only c works left

    go : (o : Option (List ℕ)) → old.image ≡ o → (x : List ℕ) × old.may_leave x × R x c
    go (Some x) told = (x, before.is_left x told, subst (λ (o : Option (List ℕ)). IfSome o (R x)) is (subst (λ (o : Option (List ℕ)). IfSome o (λ y. IfSome new.image (R y))) told said))
    go None told = absurd (let tells = run.tells in let none = ap is_some told in let some = ap is_some is in grind (arith, tells, none, some))

pub shown-last : (number_a number_b x : List ℕ) → (unit_view number_a number_b x).last ≡ last_kept x
unfolding unit_view
shown-last number_a number_b x = refl

pub shown-days : (number_a number_b x : List ℕ) → (unit_view number_a number_b x).days ≡ recorded x
unfolding unit_view
shown-days number_a number_b x = refl

-- parts of images with the same first bytes, with the same part around them, and with the same bytes behind a place
pub front-same : (p n k : ℕ) → p + n ≤ k → (x c : List ℕ) → take k c ≡ take k x → bytes_at c p n ≡ bytes_at x p n
front-same p n k le x c same =
    sym (drop-take p n c) ∙ ap (λ (l : List ℕ). drop p l) (sym (take-take (p + n) k c le) ∙ ap (λ (l : List ℕ). take (p + n) l) same ∙ take-take (p + n) k x le) ∙ drop-take p n x

pub part-same : (p w q n : ℕ) → q + n ≤ w → (x c : List ℕ) → bytes_at c p w ≡ bytes_at x p w → bytes_at c (p + q) n ≡ bytes_at x (p + q) n
part-same p w q n le x c same = sym (part_in c p w q n le) ∙ ap (λ (l : List ℕ). bytes_at l q n) same ∙ part_in x p w q n le

pub behind-same : (p q : ℕ) (x c : List ℕ) → drop p c ≡ drop p x → drop (p + q) c ≡ drop (p + q) x
behind-same p q x c same = sym (drop-drop q p c) ∙ ap (λ (l : List ℕ). drop q l) same ∙ drop-drop q p x

-- the spare bytes behind the faults, where they lie so far behind a place
pub spare-same : (p q : ℕ) (x c : List ℕ) → drop p c ≡ drop p x → bytes_at c (p + q) SPARE_FAULTS.size ≡ bytes_at x (p + q) SPARE_FAULTS.size
spare-same p q x c same = ap (take SPARE_FAULTS.size) (behind-same p q x c same)

-- images with these parts were issued with the same
pub issued-parts : (x c : List ℕ) → bytes_at c 0 LAST_KEPT.place ≡ bytes_at x 0 LAST_KEPT.place → bytes_at c SPARE_COUNTS.place SPARE_COUNTS.size ≡ bytes_at x SPARE_COUNTS.place SPARE_COUNTS.size →
    bytes_at c SPARE_ROWS.place SPARE_ROWS.size ≡ bytes_at x SPARE_ROWS.place SPARE_ROWS.size → bytes_at c SPARE_FAULTS.place SPARE_FAULTS.size ≡ bytes_at x SPARE_FAULTS.place SPARE_FAULTS.size → issued_bytes c ≡ issued_bytes x
issued-parts x c front counts rows faults = λ t. front t ++ (counts t ++ (rows t ++ faults t))

-- so they are where a minute is kept
pub issued-besides : (x c : List ℕ) → SameBesides x c → issued_bytes c ≡ issued_bytes x
issued-besides x c same =
    issued-parts x c (front-same 0 564 564 (omega arith) x c same.before) (part-same 572 452 8 44 (omega arith) x c same.between) (part-same 572 452 436 16 (omega arith) x c same.between) (spare-same 2115044 278598 x c same.after)

-- what two clauses say of the images that a run leaves holds together: the image before is one
pub both-leave : {old new : State} {R S : List ℕ → List ℕ → Type 0} → LeavesOnly old new R → LeavesOnly old new S → LeavesOnly old new (λ x c. R x c × S x c)
both-leave {old} {new} {R} {S} one other = record {
  size = one.size;
  behind = one.behind;
  writable = one.writable;
  layers = one.layers;
  tells = one.tells;
  later = one.later;
  since = λ t c le left. joined (old.left_since t c) c (one.since t c le left) (other.since t c le left);
  now = λ c left. joined (old.may_leave c) c (one.now c left) (other.now c left);
  keeps = one.keeps;
}
  where
    joined : (P : Type 0) (c : List ℕ) → P ⊎ ((x : List ℕ) × (old.image ≡ Some x) × R x c) → P ⊎ ((x : List ℕ) × (old.image ≡ Some x) × S x c) → P ⊎ ((x : List ℕ) × (old.image ≡ Some x) × (R x c × S x c))
    joined P c (inl was) second = inl was
    joined P c (inr here) (inl was) = inl was
    joined P c (inr here) (inr there) =
        let both : Some there.0 ≡ Some here.0 = sym there.1 ∙ here.1 in
        let same : there.0 ≡ here.0 = cc in
        inr (here.0, here.1, (here.2, subst (λ (x : List ℕ). S x c) same there.2))
