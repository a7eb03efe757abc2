-- An over speeding: its entry, then the begin of the first one, then their number.
use Rattle.std.proofs.Common.{◌≡◌, inl, inr, ⊎_elim, ℕ, ◌+◌, ◌<◌, ◌≤◌, Bool, cond, length, arith, Option, Some, None, IfSome, option_map, List, refl, sym, ◌∙◌, ap, subst}
use Rattle.std.specs.Int.{to_be_bytes, w32}
use Rattle.std.proofs.lemmas.Bool.{eq-eqb, lt-ltb}
use Rattle.card_layout.specs.Images.{number_at, put}
use Rattle.tach_media.specs.Medium.{State, LeavesOnly, LiesInside, IsPartlyWritten}
use Rattle.tach_media.proofs.Ranges.{lies_still}
use Rattle.tach_media.proofs.Runs.{weaken, goes_on, told_too, at_image, turned_into, where_told}
use Rattle.unit_notes.specs.Noting.{OrTurned, with_first, with_one_more, IsNotedAt, IsNotingAt, IsNotingEvent, IsEventNoted, IsNotingOver, IsOverNoted}
use Rattle.unit_notes.specs.Tables.{place_taken, place_of_day}

-- what is noted is a moment of its noting
at_last : (kind : ℕ) (front x y : List ℕ) (place day : Option ℕ) → IsNotedAt kind front x place day y → IsNotingAt kind front x place day y
at_last kind front x y (Some i) day noted = inr (inr noted)
at_last kind front x y None (Some i) noted = inr noted
at_last kind front x y None None noted = noted

pub noted_last : (kind : ℕ) (front x y : List ℕ) → IsEventNoted kind front x y → IsNotingEvent kind front x y
noted_last kind front x y noted = record { outside = noted.outside; entry = at_last kind front x y (place_taken kind front x) (place_of_day kind front x) noted.entry }

-- ---- the two numbers

pub first_turned : (begin n : ℕ) (bytes x : List ℕ) → bytes ≡ to_be_bytes w32 begin → n ≡ number_at x 572 4 → n ≡ 0 → put 572 bytes x ≡ with_first begin x
first_turned begin n bytes x spelled value zero = ap (λ (b : List ℕ). put 572 b x) spelled ∙ sym (ap (λ (b : Bool). cond b (put 572 (to_be_bytes w32 begin) x) x) (eq-eqb (number_at x 572 4) 0 (sym value ∙ zero)))

pub count_turned : (n : ℕ) (bytes x : List ℕ) → bytes ≡ to_be_bytes w32 (n + 1) → n ≡ number_at x 576 4 → n < 255 → put 576 bytes x ≡ with_one_more x
count_turned n bytes x spelled value few =
    ap (λ (b : List ℕ). put 576 b x) spelled
    ∙ ap (λ (k : ℕ). put 576 (to_be_bytes w32 (k + 1)) x) value
    ∙ sym (ap (λ (b : Bool). cond b (put 576 (to_be_bytes w32 (number_at x 576 4 + 1)) x) x) (lt-ltb (number_at x 576 4) 255 (subst (λ (k : ℕ). k < 255) value few)))

-- a number has four bytes
pub four_bytes : (n : ℕ) (bytes : List ℕ) → bytes ≡ to_be_bytes w32 n → length bytes ≡ 4
four_bytes n bytes spelled = ap length spelled

pub four_writable : (old new : List (ℕ × ℕ)) (place n : ℕ) (bytes : List ℕ) → bytes ≡ to_be_bytes w32 n → new ≡ old → place + 4 ≤ 2485808 → LiesInside old 0 2485808 → LiesInside new place (length bytes)
four_writable old new place n bytes spelled same inside whole = subst (λ (k : ℕ). LiesInside new place k) (sym (four_bytes n bytes spelled)) (lies_still old new 0 2485808 place 4 same (omega arith) (omega (arith, inside)) whole)

-- a write of four bytes at most
pub turned_whole : (f : List ℕ → List ℕ) (place : ℕ) (bytes x c : List ℕ) → length bytes ≤ 4 → put place bytes x ≡ f x → IsPartlyWritten place bytes x c → OrTurned f x c
turned_whole f place bytes x c few turned partly = ⊎_elim (λ same. inl same) (λ is. inr (is ∙ turned)) (partly.whole few)

-- an image after reads and a write
pub image_as : (o p q : Option (List ℕ)) (h k : List ℕ → List ℕ) → p ≡ o → q ≡ option_map h p → ((x : List ℕ) → o ≡ Some x → h x ≡ k x) → q ≡ option_map k o
image_as None p q h k same is all = is ∙ ap (option_map h) same
image_as (Some x) p q h k same is all = is ∙ ap (option_map h) same ∙ ap Some (all x refl)

module _ (begin : ℕ) (front : List ℕ) {old mid : State} (first : LeavesOnly old mid (IsNotingEvent 7 front)) (noted : IfSome old.image (λ x. IfSome mid.image (IsEventNoted 7 front x))) where
  noted_at : (x y : List ℕ) → old.image ≡ Some x → mid.image ≡ Some y → IsEventNoted 7 front x y
  noted_at x y was is = at_image (IsEventNoted 7 front x) is (at_image (λ z. IfSome mid.image (IsEventNoted 7 front z)) was noted)

  pub over_entry : LeavesOnly old mid (IsNotingOver begin front)
  over_entry = weaken first (λ x c was entry. inl entry)

  pub over_begin : {later : State} → LeavesOnly mid later (OrTurned (with_first begin)) → LeavesOnly old later (IsNotingOver begin front)
  over_begin {later} next = goes_on over_entry next (λ x y c was is moment. ⊎_elim
      (λ same. inl (subst (λ (l : List ℕ). IsNotingEvent 7 front x l) (sym same) (noted_last 7 front x y (noted_at x y was is))))
      (λ turned. inr (y, noted_at x y was is, inl turned)) moment)

  pub over_number : {later new : State} → LeavesOnly mid later (OrTurned (with_first begin)) → later.image ≡ option_map (with_first begin) mid.image → LeavesOnly later new (OrTurned with_one_more) → LeavesOnly old new (IsNotingOver begin front)
  over_number {later} {new} next written last = goes_on (over_begin next) last (λ x z c was is moment.
      let before = told_too later.image mid.image z next.tells is in
      let turned : z ≡ with_first begin before.0 = turned_into (with_first begin) written before.1 is in
      ⊎_elim
      (λ same. inr (before.0, noted_at x before.0 was before.1, inl (same ∙ turned)))
      (λ more. inr (before.0, noted_at x before.0 was before.1, inr (more ∙ ap with_one_more turned))) moment)

  pub over_noted : {later new : State} → LeavesOnly mid later (OrTurned (with_first begin)) → later.image ≡ option_map (with_first begin) mid.image → LeavesOnly later new (OrTurned with_one_more) → new.image ≡ option_map with_one_more later.image
      → IfSome old.image (λ x. IfSome new.image (IsOverNoted begin front x))
  over_noted {later} {new} next written last counted = where_told old.image new.image (IsOverNoted begin front) (λ x c was is.
      let middle = told_too new.image later.image c last.tells is in
      let before = told_too later.image mid.image middle.0 next.tells middle.1 in
      (before.0, noted_at x before.0 was before.1, turned_into with_one_more counted middle.1 is ∙ ap with_one_more (turned_into (with_first begin) written before.1 middle.1)))
