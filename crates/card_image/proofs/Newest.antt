-- The newest minute of a card, by its end mark and its last entry; and the entries of the days that count.
use Rattle.std.proofs.Common.{◌≡◌, ℕ, suc, ◌+◌, ◌/◌, ◌%◌, ◌<◌, ◌≤◌, max, Bool, true, false, cond, List, [], ◌∷◌, refl, ◌∙◌, ap, arith}
use Rattle.std.specs.Prelude.{nat_eq}
use Rattle.std.proofs.lemmas.Bool.Decides.{nat_tests}
use Rattle.std.proofs.Math.Nat.{max-eq_left}
use Rattle.card_retention.specs.activity_codec.declared.entries.Entry.{Entry}
use Rattle.card_retention.specs.activity_codec.Words.{word_minute}
use Rattle.card_files.specs.card_layout.declared.files.Application.{Application}
use Rattle.card_retention.specs.card_model.Days.{Day, AreDays, last_word}
use Rattle.card_retention.specs.card_model.Changes.{OnNewest, date_of, trimmed}
use Rattle.card_retention.proofs.card_model.Ascending.{words_below}
use Rattle.card_retention.proofs.card_model.Trims.{are_trimmed, trimmed_twice}
use Rattle.card_retention.specs.Entries.{entries_up_to, last_entry, newest_word, closed_at, newest_minute}
use Rattle.card_retention.specs.Shown.{AllBefore, sizes}
use Rattle.card_retention.proofs.Starting.{sizes_low}
use Rattle.card_retention.proofs.Entering.{before_later}
use Rattle.card_retention.proofs.Flat.{UpTo, newest_flat}
use Rattle.card_retention.proofs.Checked.{early_last}
use Rattle.card_retention.proofs.Newest.{newest_law}
use Rattle.card_retention.proofs.ListTrims.{entries_trimmed, ends_flat}
use Rattle.card_image.specs.Fields.{card_days}
use Rattle.card_image.specs.View.{counting, card_view}

-- where a trim cuts nothing the newest word is not behind the mark
newest_low : (mark date : ℕ) (d : Day) (ds : List Day) → AreDays date (d ∷ ds) → OnNewest (UpTo mark) (d ∷ ds) → newest_word (d ∷ ds) ≤ mark
newest_low mark date d [] are on = by (nat_eq d.date (date_of mark)) refl
  where
    is_same : (m n : ℕ) → nat_eq m n ≡ true → m ≡ n
    is_same m n is = grind (arith, nat_tests)

    apart : (m n : ℕ) → m ≤ n → nat_eq m n ≡ false → m < n
    apart m n le is = grind (arith, nat_tests)

    by : (b : Bool) → nat_eq d.date (date_of mark) ≡ b → d.date / 60 + word_minute (last_word d.words) ≤ mark
    by true here = let at : d.date ≡ date_of mark = is_same d.date (date_of mark) here in omega (arith, at, early_last (mark % 1440) d.words are.1.ordered (on.last at))
    by false here = omega (arith, apart d.date (date_of mark) on.day here, words_below d.words are.1.ordered, are.1.midnight)
newest_low mark date d (e ∷ ds) are on = newest_low mark d.date e ds are.2 on

pub newest_flat_low : (mark : ℕ) (ds : List Day) → AreDays 0 ds → trimmed mark ds ≡ ds → newest_word ds ≤ mark
newest_flat_low mark [] are is = omega arith
newest_flat_low mark (d ∷ ds) are is = newest_low mark 0 d ds are (newest_flat mark d ds is)

-- THE NEWEST MINUTE as the end mark trims the card: the mark, or that of the closing word behind the last entry
pub newest_trimmed : (mark : ℕ) (ds : List Day) → AreDays 0 ds → newest_minute mark (trimmed mark ds) ≡ max mark (closed_at (last_entry (entries_up_to mark ds)))
newest_trimmed mark ds are =
    let less = are_trimmed mark 0 ds are in
    newest_law mark (trimmed mark ds) less (ends_flat mark (trimmed mark ds) less (trimmed_twice mark ds))
    ∙ ap (λ (n : ℕ). max n (closed_at (last_entry (entries_up_to mark (trimmed mark ds))))) (max-eq_left (newest_flat_low mark (trimmed mark ds) less (trimmed_twice mark ds)))
    ∙ ap (λ (es : List Entry). max mark (closed_at (last_entry es))) (entries_trimmed mark 0 ds are)

pub newest_of_entries : (app : Application) (x : List ℕ) → AreDays 0 (card_days app x) → (card_view app x).newest ≡ max (card_view app x).mark (closed_at (last_entry (card_view app x).held.entries))
unfolding card_view
newest_of_entries app x are = newest_trimmed (card_view app x).mark (card_days app x) are

-- THE ENTRIES are those of the days that count
pub counted_entries : (session mark : ℕ) (ds : List Day) → AreDays 0 ds → entries_up_to mark (counting session mark ds) ≡ entries_up_to mark ds
counted_entries session mark ds are = by (nat_eq session 0)
  where
    by : (b : Bool) → entries_up_to mark (cond b ds (trimmed mark ds)) ≡ entries_up_to mark ds
    by true = refl
    by false = entries_trimmed mark 0 ds are

-- THE DAYS THAT COUNT are not later than the end mark and, where no session is open, the newest word
pub counting_before : (session mark k : ℕ) (ds : List Day) → AreDays 0 ds → mark ≤ k → (session ≡ 0 → newest_word ds ≤ k) → AllBefore (suc (k / 1440)) (sizes (counting session mark ds))
counting_before session mark k ds are low closed = by (nat_eq session 0) refl
  where
    none : (m : ℕ) → nat_eq m 0 ≡ true → m ≡ 0
    none m is = grind (arith, nat_tests)

    by : (b : Bool) → nat_eq session 0 ≡ b → AllBefore (suc (k / 1440)) (sizes (cond b ds (trimmed mark ds)))
    by true is = before_later (suc (newest_word ds / 1440)) (suc (k / 1440)) (sizes ds) (omega (arith, closed (none session is))) (sizes_low 0 ds are)
    by false is =
        let less = are_trimmed mark 0 ds are in
        before_later (suc (newest_word (trimmed mark ds) / 1440)) (suc (k / 1440)) (sizes (trimmed mark ds)) (omega (arith, low, newest_flat_low mark (trimmed mark ds) less (trimmed_twice mark ds))) (sizes_low 0 (trimmed mark ds) less)
