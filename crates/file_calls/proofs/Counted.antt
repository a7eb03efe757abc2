-- The entries of lines by their numbers.
use Rattle.std.proofs.Common.{◌≡◌, ◌∙◌, ℕ, ◌+◌, ◌-◌, ◌<◌, List, ◌++◌, length, get_or, take, drop, map, refl, ap, sym, arith, length-append}
use Rattle.std.proofs.Math.ListN.{get_or-append, length-map}
use Rattle.std.proofs.lemmas.List.{take_more, take-append-drop, map-append, get_or-map, get_or-append_right}
use Rattle.std.proofs.lemmas.List.FromFn.{length-map-range_with_len, get_or-map-range_with_len}
use Rattle.activity_codec.specs.declared.entries.Entry.{Entry}
use Rattle.view_model.specs.declared.CardShown.{CardShown}
use Rattle.view_model.specs.declared.Viewed.{Viewed}
use Rattle.view_model.specs.declared.Line.{Line}
use Rattle.file_view.specs.Histories.{entry_told, line_minutes, minutes_on}
use Rattle.slot_bars.proofs.Runs.{on_append}
use Rattle.card_match.proofs.Empty.{no_card_line}
use Rattle.card_match.proofs.Lines.{viewed, on_more}

-- how many minutes a line has
pub line_length : (line : Line CardShown) → length (line_minutes line) ≡ line.last + 1 - line.first
line_length line = length-map-range_with_len (viewed line.shown) line.first (line.last + 1 - line.first)

-- and with it the lines so far
on_take : (lines : List (Line CardShown)) (i : ℕ) → i < length lines → minutes_on (take (i + 1) lines) ≡ minutes_on (take i lines) ++ line_minutes (get_or lines i no_card_line)
on_take lines i low = ap (λ (ls : List (Line CardShown)). minutes_on ls) (take_more lines i no_card_line low) ∙ on_more (take i lines) (get_or lines i no_card_line)

pub length_more : (lines : List (Line CardShown)) (i : ℕ) → i < length lines
    → length (minutes_on (take (i + 1) lines)) ≡ length (minutes_on (take i lines)) + ((get_or lines i no_card_line).last + 1 - (get_or lines i no_card_line).first)
length_more lines i low =
    ap (λ (vs : List (Viewed CardShown)). length vs) (on_take lines i low)
    ∙ length-append (minutes_on (take i lines)) (line_minutes (get_or lines i no_card_line))
    ∙ ap (λ (n : ℕ). length (minutes_on (take i lines)) + n) (line_length (get_or lines i no_card_line))

abbrev entries_on : List (Viewed CardShown) → List Entry
entries_on shown = map entry_told shown

-- an entry of a line by its number in that
in_line : (line : Line CardShown) (left : ℕ) (e : Entry) → left < line.last + 1 - line.first → get_or (entries_on (line_minutes line)) left e ≡ entry_told (record { minute = line.first + left; shown = line.shown })
in_line line left e low =
    get_or-map entry_told (line_minutes line) left (viewed line.shown line.first) e (omega (arith, low, line_length line))
    ∙ ap entry_told (get_or-map-range_with_len (viewed line.shown) line.first (line.last + 1 - line.first) left (line.first + left) (viewed line.shown line.first) low refl)

-- and by its number in all
pub entry_is : (lines : List (Line CardShown)) (i left nth : ℕ) (e : Entry) → i < length lines → left + length (minutes_on (take i lines)) ≡ nth → left < (get_or lines i no_card_line).last + 1 - (get_or lines i no_card_line).first
    → get_or (map entry_told (minutes_on lines)) nth e ≡ entry_told (record { minute = (get_or lines i no_card_line).first + left; shown = (get_or lines i no_card_line).shown })
entry_is lines i left nth e low at inside =
    let more = length_more lines i low in
    let whole = length-map (minutes_on (take (i + 1) lines)) entry_told in
    let before = length-map (minutes_on (take i lines)) entry_told in
    ap (λ (vs : List (Viewed CardShown)). get_or (entries_on vs) nth e)
    (ap (λ (ls : List (Line CardShown)). minutes_on ls) (sym (take-append-drop (i + 1) lines)) ∙ on_append (take (i + 1) lines) (drop (i + 1) lines))
    ∙ ap (λ (es : List Entry). get_or es nth e) (map-append entry_told (minutes_on (take (i + 1) lines)) (minutes_on (drop (i + 1) lines)))
    ∙ get_or-append (entries_on (minutes_on (take (i + 1) lines))) (entries_on (minutes_on (drop (i + 1) lines))) e nth (omega (arith, whole, more, at, inside))
    ∙ ap (λ (vs : List (Viewed CardShown)). get_or (entries_on vs) nth e) (on_take lines i low)
    ∙ ap (λ (es : List Entry). get_or es nth e) (map-append entry_told (minutes_on (take i lines)) (line_minutes (get_or lines i no_card_line)))
    ∙ get_or-append_right (entries_on (minutes_on (take i lines))) (entries_on (line_minutes (get_or lines i no_card_line))) (length (minutes_on (take i lines))) nth e before (omega (arith, at))
    ∙ ap (λ (k : ℕ). get_or (entries_on (line_minutes (get_or lines i no_card_line))) k e) (omega (arith, at))
    ∙ in_line (get_or lines i no_card_line) left e inside
