-- What was read of a string from its newest end backwards.
use Rattle.std.proofs.Common.{◌≡◌, ⊎_elim, ℕ, ◌+◌, ◌-◌, ◌<◌, ◌≤◌, Bool, true, false, List, [], ◌∷◌, ◌++◌, Option, Some, None, IfSome, length, option_map, take, refl, sym, ◌∙◌, ap, subst, arith}
use Rattle.std.specs.Prelude.{◌&&◌, nat_lt, nat_le, not}
use Rattle.std.proofs.lemmas.Bool.Decides.{nat_tests}
use Rattle.std.proofs.lemmas.Bool.{cases_lt}
use Rattle.tach_media.specs.Medium.{put, bytes_at, SameOutside}
use Rattle.tach_media.proofs.Images.{part_after, part_in, put_outside}
use Rattle.card_model.specs.Bytes.{number, two_bytes}
use Rattle.card_model.specs.Days.{Day, IsDay}
use Rattle.card_model.specs.Image.{StringShape, IsStringShape, turned, oldest_pointer, newest_pointer, string_of, IsPointer, HoldsDays, at}
use Rattle.card_model.proofs.Lists.{len_least}
use Rattle.card_model.proofs.Reading.{round_part, day_is}
use Rattle.card_days.specs.declared.head.RecordHead.{RecordHead}
use Rattle.card_days.specs.declared.rear.Block.{Block}
use Rattle.card_days.specs.declared.rear.Rear.{Rear}
use Rattle.card_days.specs.Heads.{head_bytes}
use Rattle.card_days.specs.Rears.{head_later, IsBlock, IsRear}
use Rattle.card_days.specs.Trim.{newest_later}
use Rattle.card_days.proofs.CutLast.{none_there, newest_read}
use Rattle.card_days.proofs.Lists.{split, some_newest}
use Rattle.card_days.proofs.LoadLemmas.{previous_read}
use Rattle.card_days.proofs.Places.{points}

-- what a run that turned the image leaves of what was known
pub told_put : (o p : Option (List ℕ)) (f : List ℕ → List ℕ) (A B : List ℕ → Type 0) → p ≡ option_map f o → IfSome o A → ((x : List ℕ) → o ≡ Some x → A x → B (f x)) → IfSome p B
told_put o p f A B is known all = subst (λ (q : Option (List ℕ)). IfSome q B) (sym is) (by o known all)
  where
    by : (o : Option (List ℕ)) → IfSome o A → ((x : List ℕ) → o ≡ Some x → A x → B (f x)) → IfSome (option_map f o) B
    by None known all = tt
    by (Some x) known all = all x refl known

later_last : (date : ℕ) (ds : List Day) (d : Day) → newest_later date (ds ++ d ∷ []) ≡ not (nat_le d.date date)
later_last date [] d = refl
later_last date (e ∷ []) d = refl
later_last date (e ∷ f ∷ ds) d = later_last date (f ∷ ds) d

-- a length that is one, and a date
some_later : (date len n : ℕ) → 0 < len → (nat_lt 0 len && nat_lt date n) ≡ not (nat_le n date)
some_later date len n some =
    let there : nat_lt 0 len ≡ true = grind (arith, nat_tests) in
    ap (λ (b : Bool). b && nat_lt date n) there ∙ tests date n
  where
    tests : (m n : ℕ) → (true && nat_lt m n) ≡ not (nat_le n m)
    tests m n = ⊎_elim
        (λ lt. let a : nat_lt m n ≡ true = grind (arith, nat_tests) in let b : nat_le n m ≡ false = grind (arith, nat_tests) in a ∙ sym (ap not b))
        (λ le. let a : nat_lt m n ≡ false = grind (arith, nat_tests) in let b : nat_le n m ≡ true = grind (arith, nat_tests) in a ∙ sym (ap not b)) (cases_lt m n)

none_later : (date len n : ℕ) → len ≡ 0 → (nat_lt 0 len && nat_lt date n) ≡ false
none_later date len n none = let there : nat_lt 0 len ≡ false = grind (arith, nat_tests) in ap (λ (b : Bool). b && nat_lt date n) there

module _ (r : StringShape) (shape : IsStringShape r) (x : List ℕ) (inside : r.base + (4 + r.size) ≤ length x) where
  -- the twelve bytes of a block are those of the string
  pub in_block : (b : Block) (h : RecordHead) (p : ℕ) → p + 12 ≤ r.size → b.place ≤ p → p + 12 ≤ b.place + 256 → IsBlock r b x → head_bytes h ≡ bytes_at b.bytes (p - b.place) 12 → head_bytes h ≡ take 12 (turned p (string_of r x))
  in_block b h p fits from to block is =
      let place : at r b.place + (p - b.place) ≡ at r p = omega (arith, from) in
      is ∙ ap (λ (l : List ℕ). bytes_at l (p - b.place) 12) block ∙ part_in x (at r b.place) 256 (p - b.place) 12 (omega (arith, from, to))
      ∙ ap (λ (k : ℕ). bytes_at x k 12) place ∙ sym (round_part r shape x inside p 12 (omega (arith, fits)) fits)

  module _ (v : Rear) (known : IsRear r v x) where
    -- whether a newest day is later
    pub later_known : (date : ℕ) (days : List Day) → HoldsDays r x days → head_later date v.head ≡ newest_later date days
    later_known date [] g =
        none_later date v.head.len v.head.date (none_there r shape x inside 0 v.newest known.newest v.head known.head v.head.len (λ even most. refl) g)
    later_known date (d ∷ ds) g =
        let s = split (λ e. Unit {0}) (d ∷ ds) (some_newest (d ∷ ds) (λ none. cc)) in
        let h = subst (λ (l : List Day). HoldsDays r x l) s.is g in
        let day : IsDay s.newest = day_is 0 s.older s.newest [] h.ordered in
        let read = newest_read r shape x inside 0 v.newest known.newest v.head known.head v.head.len (λ even most. refl) s.older s.newest h in
        some_later date v.head.len v.head.date (omega (arith, read.0, len_least s.newest day))
        ∙ ap (λ (n : ℕ). not (nat_le n date)) read.1 ∙ sym (ap (λ (l : List Day). newest_later date l) s.is ∙ later_last date s.older s.newest)

    -- the length before the newest day
    pub previous_at : IsPointer r.size v.newest → v.head.previous ≡ number (bytes_at x (at r v.newest) 2)
    previous_at pointer =
        sym (previous_read r.size 0 0 0 (turned v.newest (string_of r x)) v.head known.head)
        ∙ ap number (round_part r shape x inside v.newest 2 pointer.below (omega (arith, pointer.below, pointer.even, shape.even)))

    -- with another newest pointer
    module _ (p : ℕ) where
      abbrev z : List ℕ
      z = put (r.base + 2) (two_bytes p) x

      pub oldest_then : IsPointer r.size (oldest_pointer r z) → v.oldest ≡ oldest_pointer r z
      oldest_then pointer = let moved = points r x inside p in known.oldest (subst (λ (k : ℕ). IsPointer r.size k) moved.oldest pointer) ∙ sym moved.oldest

      pub newest_then : p ≡ newest_pointer r z
      newest_then = let moved = points r x inside p in sym moved.newest

      pub block_then : IsBlock r v.block z
      block_then =
          let same : SameOutside (r.base + 2) 2 x z = put_outside (r.base + 2) (two_bytes p) x (omega (arith, inside)) in
          known.block ∙ sym (part_after (r.base + 2) 2 (at r v.block.place) 256 x z same (omega arith))

-- the same of an image that is told
pub later_told : (o : Option (List ℕ)) (r : StringShape) → IsStringShape r → ((x : List ℕ) → o ≡ Some x → r.base + (4 + r.size) ≤ length x) → (v : Rear) (date : ℕ) (later : Bool)
    → later ≡ head_later date v.head → IfSome o (IsRear r v) → IfSome o (λ x. (days : List Day) → HoldsDays r x days → later ≡ newest_later date days)
later_told None r shape inside v date later is known = tt
later_told (Some x) r shape inside v date later is known = λ days h. is ∙ later_known r shape x (inside x refl) v known date days h
