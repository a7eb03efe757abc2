-- Where the parts of a message end: of bytes that are made of such parts, and what bytes are made of that have such ends.
use Rattle.std.proofs.Common.{◌≡◌, ℕ, zero, suc, ◌+◌, ◌*◌, ◌<◌, ◌≤◌, ◌^◌, Bool, true, false, cond, Option, Some, None, List, [], ◌∷◌, ◌++◌, length, take, drop, refl, sym, ◌∙◌, ap, subst, append_assoc, length-append, All, arith}
use Rattle.std.specs.Prelude.{nat_le, option_and_then}
use Rattle.std.proofs.lemmas.List.{length-take, length-drop, take-append-drop, drop-drop, take_at, drop_at}
use Rattle.std.proofs.Math.Nat.{suc-mul}
use Rattle.std.proofs.lemmas.List.Elements.{All-nil, All-cons}
use Rattle.std.proofs.lemmas.Option.{option_and_then_some}
use Rattle.byteorder.specs.Endian.{big_number, big_bytes}
use Rattle.byteorder.specs.Numbers.{length-bytes_high_first, big_from-lt}
use Rattle.card_layout.specs.Images.{bytes_at, number_at}
use Rattle.card_layout.specs.Fields.{joined, IsBytes}
use Rattle.card_layout.proofs.Numbers.{big_number-big_bytes, big_bytes-big_number}
use Rattle.card_layout.proofs.Cuts.{IsBytes-take, IsBytes-drop}
use Rattle.card_layout.proofs.Images.{part_split}
use Rattle.unit_model.proofs.Checks.{le_true, le_of}
use Rattle.message_model.specs.Messages.{counted}
use Rattle.unit_messages.specs.declared.parts.Part.{Part}
use Rattle.unit_messages.specs.declared.parts.Part.TheVariants.{Field, Few, Many}
use Rattle.unit_messages.specs.Parts.{AreCounted, IsPart, AreParts, within, counted_end, part_end, parts_end}

-- ENDS INSIDE THE BYTES
pub within_le : (b : List ℕ) (e : ℕ) → e ≤ length b → within b e ≡ Some e
within_le b e le = ap (λ (t : Bool). cond t (Some e) None) (le_true e (length b) le)

pub if_some : {X : Type 0} (t : Bool) (o : Option X) (e : X) → cond t o None ≡ Some e → (t ≡ true) × (o ≡ Some e)
if_some true o e is = (refl, is)
if_some false o e is = absurd (cc)

within_some : (b : List ℕ) (e f : ℕ) → within b e ≡ Some f → (e ≤ length b) × (e ≡ f)
within_some b e f is = let both = if_some (nat_le e (length b)) (Some e) f is in (le_of e (length b) both.0, let same : e ≡ f = grind (arith, both.1) in same)

pub counted_is : (b : List ℕ) (at w s n : ℕ) (r : Option ℕ) → at + w ≤ length b → n ≡ number_at b at w → r ≡ within b (at + w + n * s) → r ≡ counted_end b at w s
counted_is b at w s n r inside is ends =
    ends ∙ ap (λ (m : ℕ). within b (at + w + m * s)) is ∙ sym (ap (λ (t : Bool). cond t (within b (at + w + number_at b at w * s)) None) (le_true (at + w) (length b) inside))

-- ENTRIES
-- entries of one size, as long as they are many
pub joined_length : (size : ℕ) (es : List (List ℕ)) → All (λ e. length e ≡ size) es → length (joined es) ≡ length es * size
joined_length size [] all = omega arith
joined_length size (e ∷ es) all =
    let first : length e ≡ size = all 0 e (omega arith) in
    let rest : length (joined es) ≡ length es * size = joined_length size es (λ k d low. all (suc k) d (omega (arith, low))) in
    omega (arith, length-append e (joined es), first, rest, suc-mul (length es) size)

-- so many parts of one size, from a place on
abbrev pub chunks : List ℕ → (place size n : ℕ) → List (List ℕ)
chunks b place size zero = []
chunks b place size (suc n) = bytes_at b place size ∷ chunks b (place + size) size n

chunks_length : (b : List ℕ) (place size n : ℕ) → length (chunks b place size n) ≡ n
chunks_length b place size zero = refl
chunks_length b place size (suc n) = ap suc (chunks_length b (place + size) size n)

part_length : (b : List ℕ) (place n : ℕ) → place + n ≤ length b → length (bytes_at b place n) ≡ n
part_length b place n inside = omega (arith, length-take n (drop place b), length-drop place b)

chunks_sized : (b : List ℕ) (place size n : ℕ) → place + n * size ≤ length b → All (λ e. length e ≡ size) (chunks b place size n)
chunks_sized b place size zero inside = All-nil (λ e. length e ≡ size)
chunks_sized b place size (suc n) inside =
    let more : suc n * size ≡ n * size + size = suc-mul n size in
    All-cons (λ e. length e ≡ size) (bytes_at b place size) (chunks b (place + size) size n) (part_length b place size (omega (arith, more, inside)))
    (chunks_sized b (place + size) size n (omega (arith, more, inside)))

chunks_joined : (b : List ℕ) (place size n : ℕ) → joined (chunks b place size n) ≡ bytes_at b place (n * size)
chunks_joined b place size zero = ap (λ (m : ℕ). bytes_at b place m) (let e : 0 ≡ 0 * size = omega arith in e)
chunks_joined b place size (suc n) =
    ap (λ (l : List ℕ). bytes_at b place size ++ l) (chunks_joined b (place + size) size n) ∙ sym (part_split b place size (n * size))
    ∙ ap (λ (m : ℕ). bytes_at b place m) (let e : size + n * size ≡ suc n * size = omega (arith, suc-mul n size) in e)

-- the number that stands behind some bytes
pub number_behind : (pre tail : List ℕ) (w n : ℕ) → n < 256 ^ w → number_at (pre ++ (big_bytes w n ++ tail)) (length pre) w ≡ n
number_behind pre tail w n low =
    ap (λ (l : List ℕ). big_number w (take w l)) (drop_at pre (big_bytes w n ++ tail) (length pre) refl)
    ∙ ap (big_number w) (take_at (big_bytes w n) tail w (length-bytes_high_first w n)) ∙ big_number-big_bytes w n low

-- BYTES MADE OF PARTS end where their parts do
counted_complete : (pre f rest : List ℕ) (w s : ℕ) → AreCounted w s f → counted_end (pre ++ (f ++ rest)) (length pre) w s ≡ Some (length pre + length f)
counted_complete pre f rest w s is =
    let es = is.0 in
    let b = pre ++ (f ++ rest) in
    let long : length b ≡ length pre + (length f + length rest) = length-append pre (f ++ rest) ∙ ap (λ (m : ℕ). length pre + m) (length-append f rest) in
    let size : length f ≡ w + length es * s = ap length is.2 ∙ length-append (big_bytes w (length es)) (joined es) ∙ (λ t. length-bytes_high_first w (length es) t + joined_length s es is.1.sized t) in
    let spelled : b ≡ pre ++ (big_bytes w (length es) ++ (joined es ++ rest)) = ap (λ (l : List ℕ). pre ++ (l ++ rest)) is.2 ∙ ap (λ (l : List ℕ). pre ++ l) (append_assoc (big_bytes w (length es)) (joined es) rest) in
    let count : number_at b (length pre) w ≡ length es = ap (λ (l : List ℕ). number_at l (length pre) w) spelled ∙ number_behind pre (joined es ++ rest) w (length es) is.1.few in
    ap (λ (t : Bool). cond t (within b (length pre + w + number_at b (length pre) w * s)) None) (le_true (length pre + w) (length b) (omega (arith, long, size)))
    ∙ ap (λ (m : ℕ). within b (length pre + w + m * s)) count
    ∙ within_le b (length pre + w + length es * s) (omega (arith, long, size))
    ∙ ap Some (let e : length pre + w + length es * s ≡ length pre + length f = omega (arith, size) in e)

part_complete : (pre f rest : List ℕ) (p : Part) → IsPart p f → part_end (pre ++ (f ++ rest)) (length pre) p ≡ Some (length pre + length f)
part_complete pre f rest (Field n) is =
    within_le (pre ++ (f ++ rest)) (length pre + n) (omega (arith, length-append pre (f ++ rest), length-append f rest, is)) ∙ ap (λ (m : ℕ). Some (length pre + m)) (sym is)
part_complete pre f rest (Few s) is = counted_complete pre f rest 1 s is
part_complete pre f rest (Many s) is = counted_complete pre f rest 2 s is

pub parts_complete : (ps : List Part) (fs : List (List ℕ)) (pre rest : List ℕ) → AreParts ps fs → parts_end (pre ++ (joined fs ++ rest)) ps (length pre) ≡ Some (length pre + length (joined fs))
parts_complete [] [] pre rest are = ap Some (let e : length pre ≡ length pre + 0 = omega arith in e)
parts_complete [] (f ∷ fs) pre rest are = absurd (cc)
parts_complete (p ∷ ps) [] pre rest are = absurd are
parts_complete (p ∷ ps) (f ∷ fs) pre rest are =
    let more = joined fs ++ rest in
    let shifted : pre ++ ((f ++ joined fs) ++ rest) ≡ pre ++ (f ++ more) = ap (λ (l : List ℕ). pre ++ l) (append_assoc f (joined fs) rest) in
    let first = part_complete pre f more p are.0 in
    let then = parts_complete ps fs (pre ++ f) rest are.1 in
    let long : length (pre ++ f) ≡ length pre + length f = length-append pre f in
    ap (λ (l : List ℕ). option_and_then (parts_end l ps) (part_end l (length pre) p)) shifted
    ∙ ap (option_and_then (parts_end (pre ++ (f ++ more)) ps)) first
    ∙ ap (λ (m : ℕ). parts_end (pre ++ (f ++ more)) ps m) (sym long)
    ∙ ap (λ (l : List ℕ). parts_end l ps (length (pre ++ f))) (sym (append_assoc pre f more))
    ∙ then ∙ ap Some (let e : length (pre ++ f) + length (joined fs) ≡ length pre + length (f ++ joined fs) = omega (arith, long, length-append f (joined fs)) in e)

-- BYTES WITH SUCH ENDS are made of such parts
record IsCut (p : Part) (b : List ℕ) (at e : ℕ) : Type 0 where
  f : List ℕ
  is_part : IsPart p f
  bytes : IsBytes f
  rest : drop at b ≡ f ++ drop e b
  end : e ≡ at + length f
  inside : e ≤ length b

record IsCounted (w s : ℕ) (b : List ℕ) (at e : ℕ) : Type 0 where
  f : List ℕ
  entries : AreCounted w s f
  bytes : IsBytes f
  rest : drop at b ≡ f ++ drop e b
  end : e ≡ at + length f
  inside : e ≤ length b

counted_sound : (b : List ℕ) (at e w s : ℕ) → IsBytes b → at ≤ length b → counted_end b at w s ≡ Some e → IsCounted w s b at e
counted_sound b at e w s bytes low is =
    let n = number_at b at w in
    let split = if_some (nat_le (at + w) (length b)) (within b (at + w + n * s)) e is in
    let first : at + w ≤ length b = le_of (at + w) (length b) split.0 in
    let both = within_some b (at + w + n * s) e split.1 in
    let es = chunks b (at + w) s n in
    let many : length es ≡ n = chunks_length b (at + w) s n in
    let front = take w (drop at b) in
    let front_long : length front ≡ w = part_length b at w first in
    let front_bytes : IsBytes front = IsBytes-take w (drop at b) (IsBytes-drop at b bytes) in
    let low_count : n < 256 ^ w = big_from-lt 0 w front front_bytes in
    let counted_is : counted w es ≡ front ++ bytes_at b (at + w) (n * s) =
    ap (λ (m : ℕ). big_bytes w m ++ joined es) many ∙ ap (λ (l : List ℕ). l ++ joined es) (big_bytes-big_number w front front_long front_bytes)
    ∙ ap (λ (l : List ℕ). front ++ l) (chunks_joined b (at + w) s n) in
    let whole : counted w es ≡ take (w + n * s) (drop at b) = counted_is ∙ sym (part_split b at w (n * s)) in
    let long : length (take (w + n * s) (drop at b)) ≡ w + n * s = part_length b at (w + n * s) (omega (arith, both.0)) in
    record {
      f = take (w + n * s) (drop at b);
      entries = (es, record { few = subst (λ (m : ℕ). m < 256 ^ w) (sym many) low_count; sized = chunks_sized b (at + w) s n (omega (arith, both.0)) }, sym whole);
      bytes = IsBytes-take (w + n * s) (drop at b) (IsBytes-drop at b bytes);
      rest = sym (take-append-drop (w + n * s) (drop at b))
          ∙ ap (λ (l : List ℕ). take (w + n * s) (drop at b) ++ l) (drop-drop (w + n * s) at b ∙ ap (λ (m : ℕ). drop m b) (let e' : at + (w + n * s) ≡ e = omega (arith, both.1) in e'));
      end = omega (arith, long, both.1);
      inside = omega (arith, both.0, both.1);
    }

part_sound : (b : List ℕ) (at e : ℕ) (p : Part) → IsBytes b → at ≤ length b → part_end b at p ≡ Some e → IsCut p b at e
part_sound b at e (Field n) bytes low is =
    let both = within_some b (at + n) e is in
    let long : length (take n (drop at b)) ≡ n = part_length b at n both.0 in
    record {
      f = take n (drop at b);
      is_part = long;
      bytes = IsBytes-take n (drop at b) (IsBytes-drop at b bytes);
      rest = sym (take-append-drop n (drop at b)) ∙ ap (λ (l : List ℕ). take n (drop at b) ++ l) (drop-drop n at b ∙ ap (λ (m : ℕ). drop m b) both.1);
      end = omega (arith, long, both.1);
      inside = omega (arith, both.0, both.1);
    }
part_sound b at e (Few s) bytes low is = let one = counted_sound b at e 1 s bytes low is in record { f = one.f; is_part = one.entries; bytes = one.bytes; rest = one.rest; end = one.end; inside = one.inside }
part_sound b at e (Many s) bytes low is = let one = counted_sound b at e 2 s bytes low is in record { f = one.f; is_part = one.entries; bytes = one.bytes; rest = one.rest; end = one.end; inside = one.inside }

-- parts, one after the other, with a fact of all of them
abbrev pub Made : List Part → (List (List ℕ) → Type 0) → Type 0
Made [] P = P []
Made (p ∷ ps) P = (f : List ℕ) × IsPart p f × IsBytes f × Made ps (λ fs. P (f ∷ fs))

pub parts_sound : (ps : List Part) (b : List ℕ) (at e : ℕ) → IsBytes b → at ≤ length b → parts_end b ps at ≡ Some e
    → (P : List (List ℕ) → Type 0) → ((fs : List (List ℕ)) → drop at b ≡ joined fs ++ drop e b → e ≡ at + length (joined fs) → e ≤ length b → P fs) → Made ps P
parts_sound [] b at e bytes low is P all = let same : at ≡ e = grind (arith, is) in all [] (ap (λ (m : ℕ). drop m b) same) (omega (arith, same)) (omega (arith, same, low))
parts_sound (p ∷ ps) b at e bytes low is P all =
    option_and_then_some (parts_end b ps) (part_end b at p) e is (λ mid first then.
    let one = part_sound b at mid p bytes low first in (
      one.f,
      one.is_part,
      one.bytes,
      parts_sound ps b mid e bytes one.inside then (λ fs. P (one.f ∷ fs)) (λ fs rest end inside.
          all (one.f ∷ fs) (one.rest ∙ ap (λ (l : List ℕ). one.f ++ l) rest ∙ sym (append_assoc one.f (joined fs) (drop e b)))
          (omega (arith, end, one.end, length-append one.f (joined fs))) inside),
    ))
