-- What a note leaves alone: what a journal reads, and that the image decodes.
use Rattle.std.proofs.Common.{◌≡◌, ◌⊎◌, inl, inr, ⊎_elim, ℕ, ◌+◌, ◌-◌, ◌<◌, ◌≤◌, Bool, true, false, cond, List, length, refl, sym, ◌∙◌, ap, subst, arith}
use Rattle.std.specs.Prelude.{◌==◌, nat_lt}
use Rattle.std.specs.Int.{to_be_bytes, w32}
use Rattle.std.proofs.lemmas.Bool.{ltb-true}
use Rattle.card_layout.specs.Images.{SameOutside, bytes_at, big_number, number_at, put}
use Rattle.card_layout.proofs.Images.{part_before, part_after, part_in, put_outside}
use Rattle.card_layout.proofs.Spelled.{number_before, number_after, number_put, bytes_filled}
use Rattle.tacho_types.specs.declared.numbers.TimeReal.{TimeReal}
use Rattle.tacho_types.specs.declared.numbers.Odometer.{Odometer}
use Rattle.gated_ring.specs.Ring.{size_of, place_of}
use Rattle.gated_ring.specs.Change.{IsAdding}
use Rattle.event_model.specs.declared.kinds.TheConstants.{OVER_SPEEDING}
use Rattle.message_model.specs.Records.{insertion_ring, unit_place_ring, speed_ring}
use Rattle.note_model.specs.Tables.{table_of}
use Rattle.unit_model.specs.Days.{word_minute}
use Rattle.unit_model.specs.Decoding.{Decodes, is_version_good, is_rule_good, cell_place}
use Rattle.unit_minutes.specs.Beside.{SameJournal}
use Rattle.unit_minutes.proofs.Beside.{decodes_beside, passes_beside}
use Rattle.unit_notes.specs.Journal.{KeepsJournal, LeavesJournal}
use Rattle.unit_notes.specs.Noting.{IsWithdrawing, IsEventNoted, IsNotingOver, with_first, with_one_more}
use Rattle.unit_notes.proofs.Types.{table_inside}

-- ---- what a journal reads

pub keeps : (a n : ℕ) (x c : List ℕ) → ((572 ≤ a) × (a + n ≤ 580)) ⊎ ((2115044 ≤ a) × (a + n ≤ 2393642)) → SameOutside a n x c → KeepsJournal x c
keeps a n x c (inl mid) same = record {
  front = part_before a n 0 572 x c same (omega (arith, mid.0));
  rest = part_after a n 580 2114464 x c same mid.1;
  spare = part_after a n 2393642 2 x c same (omega (arith, mid.1));
  same_length = same.same_length;
}
keeps a n x c (inr high) same = record {
  front = part_before a n 0 572 x c same (omega (arith, high.0));
  rest = part_before a n 580 2114464 x c same (omega (arith, high.0));
  spare = part_after a n 2393642 2 x c same high.1;
  same_length = same.same_length;
}

-- nor what is written in the ring of detailed speed
speeds_keep : (x c : List ℕ) → SameOutside 2393644 92164 x c → KeepsJournal x c
speeds_keep x c same = record {
  front = part_before 2393644 92164 0 572 x c same (omega arith);
  rest = part_before 2393644 92164 580 2114464 x c same (omega arith);
  spare = part_before 2393644 92164 2393642 2 x c same (omega arith);
  same_length = same.same_length;
}

keeps_same : (x c : List ℕ) → c ≡ x → KeepsJournal x c
keeps_same x c same = record { front = ap (λ (l : List ℕ). bytes_at l 0 572) same; rest = ap (λ (l : List ℕ). bytes_at l 580 2114464) same; spare = ap (λ (l : List ℕ). bytes_at l 2393642 2) same; same_length = ap length same }

keeps_then : (x y c : List ℕ) → KeepsJournal x y → KeepsJournal y c → KeepsJournal x c
keeps_then x y c first next = record { front = next.front ∙ first.front; rest = next.rest ∙ first.rest; spare = next.spare ∙ first.spare; same_length = next.same_length ∙ first.same_length }

pub insertion_keeps : (head x c : List ℕ) → IsAdding insertion_ring head x c → KeepsJournal x c
insertion_keeps head x c adding = keeps 2115044 264196 x c (inr (omega arith, omega arith)) adding.outside

pub place_keeps : (head x c : List ℕ) → IsAdding unit_place_ring head x c → KeepsJournal x c
place_keeps head x c adding = keeps 2379240 7144 x c (inr (omega arith, omega arith)) adding.outside

entry_behind : (i : ℕ) → i < 2048 → (2115044 ≤ place_of insertion_ring i) × (place_of insertion_ring i + 129 ≤ 2393642)
entry_behind i below = (omega arith, omega (arith, below))

pub withdrawal_keeps : (i : ℕ) (time : TimeReal) (odometer : Odometer) (x c : List ℕ) → i < 2048 → IsWithdrawing i time odometer x c → KeepsJournal x c
withdrawal_keeps i time odometer x c below (inl same) = keeps_same x c same
withdrawal_keeps i time odometer x c below (inr (inl set)) = keeps (place_of insertion_ring i) 129 x c (inr (entry_behind i below)) set.outside
withdrawal_keeps i time odometer x c below (inr (inr withdrawn)) = keeps (place_of insertion_ring i) 129 x c (inr (entry_behind i below)) withdrawn.outside

pub table_keeps : (kind : ℕ) (x c : List ℕ) → SameOutside (table_of kind).base (size_of (table_of kind)) x c → KeepsJournal x c
table_keeps kind x c same = keeps (table_of kind).base (size_of (table_of kind)) x c (inr (omega (arith, (table_inside kind).0), (table_inside kind).1)) same

-- the two numbers
first_outside : (begin : ℕ) (y : List ℕ) → 580 ≤ length y → SameOutside 572 4 y (with_first begin y)
first_outside begin y long = by (number_at y 572 4 == 0)
  where
    by : (b : Bool) → SameOutside 572 4 y (cond b (put 572 (to_be_bytes w32 begin) y) y)
    by true = put_outside 572 (to_be_bytes w32 begin) y (omega (arith, long))
    by false = record { before = refl; after = refl; same_length = refl }

more_outside : (y : List ℕ) → 580 ≤ length y → SameOutside 576 4 y (with_one_more y)
more_outside y long = by (nat_lt (number_at y 576 4) 255)
  where
    by : (b : Bool) → SameOutside 576 4 y (cond b (put 576 (to_be_bytes w32 (number_at y 576 4 + 1)) y) y)
    by true = put_outside 576 (to_be_bytes w32 (number_at y 576 4 + 1)) y (omega (arith, long))
    by false = record { before = refl; after = refl; same_length = refl }

module _ (begin : ℕ) (front x : List ℕ) (long : length x ≡ 2485808) where
  noted_long : (y : List ℕ) → IsEventNoted OVER_SPEEDING front x y → 580 ≤ length y
  noted_long y noted = omega (arith, long, noted.outside.same_length)

  first_long : (y : List ℕ) → IsEventNoted OVER_SPEEDING front x y → 580 ≤ length (with_first begin y)
  first_long y noted = omega (arith, noted_long y noted, (first_outside begin y (noted_long y noted)).same_length)

  first_keeps : (y : List ℕ) → IsEventNoted OVER_SPEEDING front x y → KeepsJournal x (with_first begin y)
  first_keeps y noted = keeps_then x y (with_first begin y) (table_keeps OVER_SPEEDING x y noted.outside) (keeps 572 4 y (with_first begin y) (inl (omega arith, omega arith)) (first_outside begin y (noted_long y noted)))

  more_keeps : (y : List ℕ) → IsEventNoted OVER_SPEEDING front x y → KeepsJournal x (with_one_more (with_first begin y))
  more_keeps y noted =
      keeps_then x (with_first begin y) (with_one_more (with_first begin y)) (first_keeps y noted)
      (keeps 576 4 (with_first begin y) (with_one_more (with_first begin y)) (inl (omega arith, omega arith)) (more_outside (with_first begin y) (first_long y noted)))

  pub over_keeps : (c : List ℕ) → IsNotingOver begin front x c → KeepsJournal x c
  over_keeps c (inl entry) = table_keeps OVER_SPEEDING x c entry.outside
  over_keeps c (inr (y, noted, inl is)) = subst (λ (l : List ℕ). KeepsJournal x l) (sym is) (first_keeps y noted)
  over_keeps c (inr (y, noted, inr is)) = subst (λ (l : List ℕ). KeepsJournal x l) (sym is) (more_keeps y noted)

-- ---- that it decodes

pub part_of : (p w q n : ℕ) (x c : List ℕ) → q + n ≤ w → bytes_at c p w ≡ bytes_at x p w → bytes_at c (p + q) n ≡ bytes_at x (p + q) n
part_of p w q n x c inside same = sym (part_in c p w q n inside) ∙ ap (λ (l : List ℕ). bytes_at l q n) same ∙ part_in x p w q n inside

-- where the numbers lie that are judged
version_inside : 0 + 4 ≤ 572
version_inside = omega arith

rule_inside : 561 + 1 ≤ 572
rule_inside = omega arith

overs_low : 576 + 4 ≤ 2115044
overs_low = omega arith

overs_before_places : 576 + 4 ≤ 2379240
overs_before_places = omega arith

overs_before_speeds : 576 + 4 ≤ 2393644
overs_before_speeds = omega arith

insertions_low : 2115044 + 4 ≤ 2379240
insertions_low = omega arith

insertions_end : 2115044 + 264196 ≤ 2379240
insertions_end = omega arith

insertions_before_speeds : 2115044 + 264196 ≤ 2393644
insertions_before_speeds = omega arith

overs_low_speeds : 576 + 4 ≤ 2393644
overs_low_speeds = omega arith

insertions_low_speeds : 2115044 + 4 ≤ 2393644
insertions_low_speeds = omega arith

places_low_speeds : 2379240 + 4 ≤ 2393644
places_low_speeds = omega arith

places_before_speeds : 2379240 + 7144 ≤ 2393644
places_before_speeds = omega arith

pointer_before_entry : (i : ℕ) → 2115044 + 4 ≤ place_of insertion_ring i
pointer_before_entry i = omega arith

overs_before_entry : (i : ℕ) → 576 + 4 ≤ place_of insertion_ring i
overs_before_entry i = omega arith

entry_end : (i : ℕ) → i < 2048 → place_of insertion_ring i + 129 ≤ 2379240
entry_end i below = omega (arith, below)

entry_before_speeds : (i : ℕ) → i < 2048 → place_of insertion_ring i + 129 ≤ 2393644
entry_before_speeds i below = omega (arith, below)

table_before_speeds : (base size : ℕ) → base + size ≤ 2393642 → base + size ≤ 2393644
table_before_speeds base size inside = omega (arith, inside)

before_table : (base p : ℕ) → 2386384 ≤ base → p + 4 ≤ 2379244 → p + 4 ≤ base
before_table base p low inside = omega (arith, low, inside)

overs_far : 576 + 4 ≤ 2379244
overs_far = omega arith

insertions_far : 2115044 + 4 ≤ 2379244
insertions_far = omega arith

places_far : 2379240 + 4 ≤ 2379244
places_far = omega arith

-- the two numbers of over speedings
first_end : 572 + 4 ≤ 576
first_end = omega arith

first_before_insertions : 572 + 4 ≤ 2115044
first_before_insertions = omega arith

first_before_places : 572 + 4 ≤ 2379240
first_before_places = omega arith

first_before_speeds : 572 + 4 ≤ 2393644
first_before_speeds = omega arith

first_between : ((572 ≤ 572) × (572 + 4 ≤ 580)) ⊎ ((2115044 ≤ 572) × (572 + 4 ≤ 2393642))
first_between = inl (omega arith, omega arith)

count_between : ((572 ≤ 576) × (576 + 4 ≤ 580)) ⊎ ((2115044 ≤ 576) × (576 + 4 ≤ 2393642))
count_between = inl (omega arith, omega arith)

-- the minute and the word of a cell
minute_inside : (p : ℕ) → p + 6 ≤ 2115044 → p + 4 ≤ 2115044
minute_inside p high = omega (arith, high)

word_behind : (p : ℕ) → 580 ≤ p → 580 ≤ p + 4
word_behind p low = omega (arith, low)

word_inside : (p : ℕ) → p + 6 ≤ 2115044 → p + 4 + 2 ≤ 2115044
word_inside p high = omega (arith, high)

module _ (x c : List ℕ) (same : KeepsJournal x c) where
  pub same_journal : SameJournal x c
  same_journal = record {
    front = part_of 0 572 564 8 x c (omega arith) same.front;
    days = part_of 580 2114464 444 2114020 x c (omega arith) same.rest;
    same_length = same.same_length;
  }

  number_stays : (p n : ℕ) → 580 ≤ p → p + n ≤ 2115044 → number_at c p n ≡ number_at x p n
  number_stays p n low high =
      let q : ℕ = p - 580 in
      let is : 580 + q ≡ p = omega (arith, low) in
      let inside : q + n ≤ 2114464 = omega (arith, low, high) in
      ap (λ (a : ℕ). number_at c a n) (sym is) ∙ ap (big_number n) (part_of 580 2114464 q n x c inside same.rest) ∙ ap (λ (a : ℕ). number_at x a n) is

  cell_high : (n : ℕ) → n < 32 → (580 ≤ cell_place n) × (cell_place n + 6 ≤ 2115044)
  cell_high n below = (omega arith, omega (arith, below))

  version_stays : number_at c 0 4 ≡ number_at x 0 4
  version_stays = ap (big_number 4) (part_of 0 572 0 4 x c version_inside same.front)

  rule_stays : number_at c 561 1 ≡ number_at x 561 1
  rule_stays = ap (big_number 1) (part_of 0 572 561 1 x c rule_inside same.front)

  still_decodes : number_at c 576 4 ≤ 255 → number_at c 2115044 4 < 2048 → number_at c 2379240 4 < 255 → number_at c 2393644 4 < 1440 → Decodes x → Decodes c
  still_decodes overs insertions places speeds decodes =
      let was = passes_beside x decodes in
      decodes_beside x c same_journal
      (record {
        version = ap is_version_good version_stays ∙ was.version;
        rule = (λ t. is_rule_good (version_stays t) (rule_stays t)) ∙ was.rule;
        overs = overs;
        cells = λ n below.
            let p : ℕ = cell_place n in
            let low : 580 ≤ p = (cell_high n below).0 in
            let high : p + 6 ≤ 2115044 = (cell_high n below).1 in
            let minute : p + 4 ≤ 2115044 = minute_inside p high in
            let behind : 580 ≤ p + 4 = word_behind p low in
            let word : p + 4 + 2 ≤ 2115044 = word_inside p high in
            ⊎_elim
            (λ empty. inl (number_stays p 4 low minute ∙ empty))
            (λ small. inr (subst (λ (w : ℕ). word_minute w < 1440) (sym (number_stays (p + 4) 2 behind word)) small))
            (was.cells n below);
        insertions = insertions;
        places = places;
        speeds = speeds;
      })
      decodes

-- numbers that a change elsewhere leaves
low_number : (a n p : ℕ) (x c : List ℕ) (most : ℕ) → SameOutside a n x c → p + 4 ≤ a → number_at x p 4 < most → number_at c p 4 < most
low_number a n p x c most same before less = subst (λ (v : ℕ). v < most) (sym (number_before a n p 4 x c same before)) less

high_number : (a n p : ℕ) (x c : List ℕ) (most : ℕ) → SameOutside a n x c → a + n ≤ p → number_at x p 4 < most → number_at c p 4 < most
high_number a n p x c most same after less = subst (λ (v : ℕ). v < most) (sym (number_after a n p 4 x c same after)) less

overs_below : (x : List ℕ) → Decodes x → number_at x 576 4 < 256
overs_below x decodes = omega (arith, (passes_beside x decodes).overs)

overs_few : (n : ℕ) → n < 256 → n ≤ 255
overs_few n less = omega (arith, less)

pub insertion_decodes : (head x c : List ℕ) → IsAdding insertion_ring head x c → Decodes x → Decodes c
insertion_decodes head x c adding decodes =
    let was = passes_beside x decodes in
    still_decodes x c (insertion_keeps head x c adding)
    (overs_few (number_at c 576 4) (low_number 2115044 264196 576 x c 256 adding.outside overs_low (overs_below x decodes)))
    (adding.step was.insertions).points
    (high_number 2115044 264196 2379240 x c 255 adding.outside insertions_end was.places)
    (high_number 2115044 264196 2393644 x c 1440 adding.outside insertions_before_speeds was.speeds)
    decodes

pub place_decodes : (head x c : List ℕ) → IsAdding unit_place_ring head x c → Decodes x → Decodes c
place_decodes head x c adding decodes =
    let was = passes_beside x decodes in
    still_decodes x c (place_keeps head x c adding)
    (overs_few (number_at c 576 4) (low_number 2379240 7144 576 x c 256 adding.outside overs_before_places (overs_below x decodes)))
    (low_number 2379240 7144 2115044 x c 2048 adding.outside insertions_low was.insertions)
    (adding.step was.places).points
    (high_number 2379240 7144 2393644 x c 1440 adding.outside places_before_speeds was.speeds)
    decodes

-- a change of the ring of detailed speed that leaves its pointer an index
speeds_decode : (x c : List ℕ) → SameOutside 2393644 92164 x c → (number_at x 2393644 4 < 1440 → number_at c 2393644 4 < 1440) → Decodes x → Decodes c
speeds_decode x c same points decodes =
    let was = passes_beside x decodes in
    still_decodes x c (speeds_keep x c same)
    (overs_few (number_at c 576 4) (low_number 2393644 92164 576 x c 256 same overs_low_speeds (overs_below x decodes)))
    (low_number 2393644 92164 2115044 x c 2048 same insertions_low_speeds was.insertions)
    (low_number 2393644 92164 2379240 x c 255 same places_low_speeds was.places)
    (points was.speeds)
    decodes

-- a block that is being added to it
pub block_adding : (head x c : List ℕ) → IsAdding speed_ring head x c → LeavesJournal x c
block_adding head x c adding = record { keeps = speeds_keep x c adding.outside; decodes = speeds_decode x c adding.outside (λ inside. (adding.step inside).points) }

-- a change of one insertion, behind the ring's pointer
entry_decodes : (i : ℕ) (x c : List ℕ) → i < 2048 → SameOutside (place_of insertion_ring i) 129 x c → Decodes x → Decodes c
entry_decodes i x c below same decodes =
    let was = passes_beside x decodes in
    still_decodes x c (keeps (place_of insertion_ring i) 129 x c (inr (entry_behind i below)) same)
    (overs_few (number_at c 576 4) (low_number (place_of insertion_ring i) 129 576 x c 256 same (overs_before_entry i) (overs_below x decodes)))
    (low_number (place_of insertion_ring i) 129 2115044 x c 2048 same (pointer_before_entry i) was.insertions)
    (high_number (place_of insertion_ring i) 129 2379240 x c 255 same (entry_end i below) was.places)
    (high_number (place_of insertion_ring i) 129 2393644 x c 1440 same (entry_before_speeds i below) was.speeds)
    decodes

pub withdrawal_decodes : (i : ℕ) (time : TimeReal) (odometer : Odometer) (x c : List ℕ) → i < 2048 → IsWithdrawing i time odometer x c → Decodes x → Decodes c
withdrawal_decodes i time odometer x c below (inl same) decodes = subst Decodes (sym same) decodes
withdrawal_decodes i time odometer x c below (inr (inl set)) decodes = entry_decodes i x c below set.outside decodes
withdrawal_decodes i time odometer x c below (inr (inr withdrawn)) decodes = entry_decodes i x c below withdrawn.outside decodes

pub table_decodes : (kind : ℕ) (x c : List ℕ) → SameOutside (table_of kind).base (size_of (table_of kind)) x c → Decodes x → Decodes c
table_decodes kind x c same decodes =
    let was = passes_beside x decodes in
    let low = (table_inside kind).0 in
    still_decodes x c (table_keeps kind x c same)
    (overs_few (number_at c 576 4) (low_number (table_of kind).base (size_of (table_of kind)) 576 x c 256 same (before_table (table_of kind).base 576 low overs_far) (overs_below x decodes)))
    (low_number (table_of kind).base (size_of (table_of kind)) 2115044 x c 2048 same (before_table (table_of kind).base 2115044 low insertions_far) was.insertions)
    (low_number (table_of kind).base (size_of (table_of kind)) 2379240 x c 255 same (before_table (table_of kind).base 2379240 low places_far) was.places)
    (high_number (table_of kind).base (size_of (table_of kind)) 2393644 x c 1440 same (table_before_speeds (table_of kind).base (size_of (table_of kind)) (table_inside kind).1) was.speeds)
    decodes

-- the begin of the first over speeding is not judged, and their number stays one that may stand there
first_decodes : (begin : ℕ) (y : List ℕ) → 580 ≤ length y → Decodes y → Decodes (with_first begin y)
first_decodes begin y long decodes =
    let was = passes_beside y decodes in
    let same = first_outside begin y long in
    let c : List ℕ = with_first begin y in
    still_decodes y c (keeps 572 4 y c first_between same)
    (overs_few (number_at c 576 4) (high_number 572 4 576 y c 256 same first_end (overs_below y decodes)))
    (high_number 572 4 2115044 y c 2048 same first_before_insertions was.insertions)
    (high_number 572 4 2379240 y c 255 same first_before_places was.places)
    (high_number 572 4 2393644 y c 1440 same first_before_speeds was.speeds)
    decodes

one_more_few : (y : List ℕ) → 580 ≤ length y → number_at y 576 4 ≤ 255 → number_at (with_one_more y) 576 4 ≤ 255
one_more_few y long few = by (nat_lt (number_at y 576 4) 255) refl
  where
    by : (b : Bool) → nat_lt (number_at y 576 4) 255 ≡ b → number_at (cond b (put 576 (to_be_bytes w32 (number_at y 576 4 + 1)) y) y) 576 4 ≤ 255
    by true less =
        let small : number_at y 576 4 < 255 = ltb-true (number_at y 576 4) 255 less in
        let written = number_put 576 4 (number_at y 576 4 + 1) y (omega (arith, long)) (omega (arith, small)) in
        let value : number_at (put 576 (to_be_bytes w32 (number_at y 576 4 + 1)) y) 576 4 ≡ number_at y 576 4 + 1 =
        ap (λ (b : List ℕ). number_at (put 576 b y) 576 4) (bytes_filled 4 (number_at y 576 4 + 1) (omega arith)) ∙ written in
        omega (arith, value, small)
    by false less = few

more_decodes : (y : List ℕ) → 580 ≤ length y → Decodes y → Decodes (with_one_more y)
more_decodes y long decodes =
    let was = passes_beside y decodes in
    let same = more_outside y long in
    let c : List ℕ = with_one_more y in
    still_decodes y c (keeps 576 4 y c count_between same)
    (one_more_few y long was.overs)
    (high_number 576 4 2115044 y c 2048 same overs_low was.insertions)
    (high_number 576 4 2379240 y c 255 same overs_before_places was.places)
    (high_number 576 4 2393644 y c 1440 same overs_before_speeds was.speeds)
    decodes

pub over_decodes : (begin : ℕ) (front x c : List ℕ) → length x ≡ 2485808 → IsNotingOver begin front x c → Decodes x → Decodes c
over_decodes begin front x c long (inl entry) decodes = table_decodes OVER_SPEEDING x c entry.outside decodes
over_decodes begin front x c long (inr (y, noted, inl is)) decodes =
    subst Decodes (sym is) (first_decodes begin y (noted_long begin front x long y noted) (table_decodes OVER_SPEEDING x y noted.outside decodes))
over_decodes begin front x c long (inr (y, noted, inr is)) decodes =
    subst Decodes (sym is)
    (more_decodes (with_first begin y) (first_long begin front x long y noted)
    (first_decodes begin y (noted_long begin front x long y noted) (table_decodes OVER_SPEEDING x y noted.outside decodes)))
