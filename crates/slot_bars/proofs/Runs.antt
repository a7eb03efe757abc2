-- What is seen in minutes in a row.
use Rattle.std.proofs.Common.{◌≡◌, ◌∙◌, ℕ, suc, zero, ◌+◌, ◌-◌, ◌<◌, ◌≤◌, ◌||◌, not, Bool, true, false, List, [], ◌∷◌, ◌++◌, map, refl, ap, sym, arith, append_assoc, append-nil}
use Rattle.std.specs.Prelude.{nat_le, nat_lt}
use Rattle.std.specs.List.{range_with_len}
use Rattle.std.proofs.lemmas.Bool.Decides.{nat_tests}
use Rattle.std.proofs.lemmas.List.{map-append}
use Rattle.std.proofs.lemmas.List.FromFn.{map-range_with_len_more}
use Rattle.activity_codec.proofs.ByTest.{by_test}
use Rattle.activity_codec.specs.declared.values.Slot.{Slot}
use Rattle.activity_codec.specs.declared.values.Slot.TheVariants.{Driver}
use Rattle.view_model.specs.declared.UnitShown.{UnitShown}
use Rattle.view_model.specs.declared.CardShown.{CardShown}
use Rattle.view_model.specs.declared.Viewed.{Viewed}
use Rattle.view_model.specs.declared.Line.{Line}
use Rattle.view_text.specs.Exact.{both}
use Rattle.file_view.specs.Histories.{line_minutes, minutes_on}
use Rattle.file_view.specs.Runs.{is_run}
use Rattle.file_view.proofs.Growing.{viewed, row, run_parts}
use Rattle.file_view.proofs.Lines.{bool_self, activity_self}
use Rattle.view_model.specs.declared.marks.Gap.{Gap}
use Rattle.slot_bars.specs.declared.seen.Seen.{Seen}
use Rattle.slot_bars.specs.Seeing.{is_in_gap, state_in, slot_seen, card_seen, same_seen}
use Rattle.slot_bars.specs.Gaps.{AreSameGaps}
use Rattle.slot_bars.specs.Runs.{as_unit}

-- the same is seen in a minute and in itself
pub seen_self : (s : Seen) → same_seen s s ≡ true
seen_self s = rw (activity_self s.act, bool_self s.present, bool_self s.crew, bool_self s.known) refl

-- minutes in a row in each of which the same is seen
pub seen_row : (gaps : List Gap) (slot : Slot) (shown : UnitShown) (seen : Seen) (a n : ℕ) → ((m : ℕ) → a ≤ m → m < a + n → (slot_seen gaps slot (viewed shown m)).shown ≡ seen)
    → map (slot_seen gaps slot) (row shown a n) ≡ row seen a n
seen_row gaps slot shown seen a zero alike = refl
seen_row gaps slot shown seen a (suc n) alike =
    ap (λ (s : Seen). viewed s a ∷ map (slot_seen gaps slot) (row shown (a + 1) n)) (alike a (omega arith) (omega arith))
    ∙ ap (λ (l : List (Viewed Seen)). viewed seen a ∷ l) (seen_row gaps slot shown seen (a + 1) n (λ m low high. alike m (omega arith) (omega (arith, high))))

-- the same is seen where the same minutes lie in gaps
pub seen_same : (gaps other : List Gap) → AreSameGaps gaps other → (slot : Slot) (minutes : List (Viewed UnitShown)) → map (slot_seen gaps slot) minutes ≡ map (slot_seen other slot) minutes
seen_same gaps other same slot [] = refl
seen_same gaps other same slot (m ∷ minutes) =
    let seen : Bool → Viewed Seen = λ inside. record { minute = m.minute; shown = record { act = (state_in slot m.shown).act; present = (state_in slot m.shown).present; crew = m.shown.crew; known = (state_in slot m.shown).present || not inside } } in
    ap (λ (v : Viewed Seen). v ∷ map (slot_seen gaps slot) minutes) (ap seen (same m.minute))
    ∙ ap (λ (l : List (Viewed Seen)). slot_seen other slot m ∷ l) (seen_same gaps other same slot minutes)

-- a row is its front with the row behind it
rows_join : {X : Type 0} → (shown : X) (a n m b k : ℕ) → b ≡ a + n → k ≡ n + m → row shown a k ≡ row shown a n ++ row shown b m
rows_join shown a zero m b k place count =
    let long : k ≡ m = omega (arith, count) in
    let same : a ≡ b = omega (arith, place) in
    ap (λ (j : ℕ). row shown a j) long ∙ ap (λ (i : ℕ). row shown i m) same
rows_join {X} shown a (suc n) m b k place count =
    let long : k ≡ suc (n + m) = omega (arith, count) in
    ap (λ (j : ℕ). row shown a j) long
    ∙ ap (λ (l : List (Viewed X)). viewed shown a ∷ l) (rows_join shown (a + 1) n m b (n + m) (omega (arith, place)) refl)

-- the minutes so far, with those of a part behind them
pub part_more : (gaps : List Gap) (slot : Slot) (shown : UnitShown) (part : Line Seen) (a from : ℕ) → a ≤ from → part.first ≡ from → from ≤ part.last
    → ((m : ℕ) → from ≤ m → m ≤ part.last → (slot_seen gaps slot (viewed shown m)).shown ≡ part.shown)
    → map (slot_seen gaps slot) (row shown a (from - a)) ++ line_minutes part ≡ map (slot_seen gaps slot) (row shown a (part.last + 1 - a))
part_more gaps slot shown part a from begun first some alike =
    let see = slot_seen gaps slot in
    let front : List (Viewed UnitShown) = row shown a (from - a) in
    let place : from ≡ a + (from - a) = omega (arith, begun) in
    let count : part.last + 1 - a ≡ from - a + (part.last + 1 - from) = omega (arith, begun, some) in
    ap (λ (k : ℕ). map (slot_seen gaps slot) (row shown a (from - a)) ++ row part.shown k (part.last + 1 - k)) first
    ∙ ap (λ (l : List (Viewed Seen)). map (slot_seen gaps slot) (row shown a (from - a)) ++ l)
    (sym (seen_row gaps slot shown part.shown from (part.last + 1 - from) (λ m low high. alike m low (omega (arith, high, some)))))
    ∙ sym (map-append see front (row shown from (part.last + 1 - from)))
    ∙ ap (λ (l : List (Viewed UnitShown)). map (slot_seen gaps slot) l) (sym (rows_join shown a (from - a) (part.last + 1 - from) from (part.last + 1 - a) place count))

-- one minute more of a row
pub slot_more : (gaps : List Gap) (slot : Slot) (shown : UnitShown) (a n j : ℕ) → a + n ≡ j
    → map (slot_seen gaps slot) (row shown a (n + 1)) ≡ map (slot_seen gaps slot) (row shown a n) ++ slot_seen gaps slot (viewed shown j) ∷ []
slot_more gaps slot shown a n j is =
    ap (λ (l : List (Viewed UnitShown)). map (slot_seen gaps slot) l) (map-range_with_len_more (viewed shown) a n j is)
    ∙ map-append (slot_seen gaps slot) (row shown a n) (viewed shown j ∷ [])

-- a card is seen as a unit with the card in its driver slot
pub card_row : (line : Line CardShown) (a n : ℕ) → map (slot_seen [] Driver) (row (as_unit line).shown a n) ≡ map card_seen (row line.shown a n)
card_row line a zero = refl
card_row line a (suc n) = ap (λ (l : List (Viewed Seen)). card_seen (viewed line.shown a) ∷ l) (card_row line (a + 1) n)

-- the minutes of lines and of more of them
pub on_append : {X : Type 0} → (lines more : List (Line X)) → minutes_on (lines ++ more) ≡ minutes_on lines ++ minutes_on more
on_append [] more = refl
on_append {X} (line ∷ lines) more = ap (λ (l : List (Viewed X)). line_minutes line ++ l) (on_append lines more) ∙ sym (append_assoc (line_minutes line) (minutes_on lines) (minutes_on more))

pub seen_more : {X : Type 0} → (see : Viewed X → Viewed Seen) (lines : List (Line X)) (line : Line X) → map see (minutes_on (lines ++ line ∷ [])) ≡ map see (minutes_on lines) ++ map see (line_minutes line)
seen_more {X} see lines line =
    ap (λ (l : List (Viewed X)). map see l) (on_append lines (line ∷ []) ∙ ap (λ (l : List (Viewed X)). minutes_on lines ++ l) (append-nil (line_minutes line)))
    ∙ map-append see (minutes_on lines) (line_minutes line)
