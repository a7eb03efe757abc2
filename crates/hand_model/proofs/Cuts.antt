-- What days tell of entries by hand up to a mark: behind a cut to it, and where no word stands behind it.
use Rattle.std.proofs.Common.{◌≡◌, inl, inr, ℕ, ◌+◌, ◌/◌, ◌%◌, ◌<◌, ◌≤◌, max, Bool, true, false, cond, List, [], ◌∷◌, ◌++◌, refl, sym, ◌∙◌, ap, subst, arith}
use Rattle.std.specs.Prelude.{◌&&◌, nat_eq, nat_le}
use Rattle.std.proofs.lemmas.Bool.{eq-eqb, eqb-true, leb-false, leb-true, le-leb, lt-leb}
use Rattle.activity_codec.specs.Words.{word_minute}
use Rattle.activity_codec.specs.declared.entries.Manual.{Manual}
use Rattle.card_image.specs.card_model.Days.{Day, AreDays, IsDay, Ascend, last_word}
use Rattle.card_image.specs.card_model.Changes.{with_newest, until, early, with_early, date_of, cut, trimmed}
use Rattle.card_image.proofs.card_model.Ascending.{words_ascend, words_below, first_last}
use Rattle.card_image.specs.Fields.{card_days}
use Rattle.card_image.specs.Own.{own_sizes, own_view}
use Rattle.card_image.specs.card_retention.Entries.{newest_word}
use Rattle.card_image.specs.card_retention.Shown.{sizes}
use Rattle.card_image.specs.card_retention.Retains.{is_day}
use Rattle.card_image.specs.card_retention.ByHand.{hands_in}
use Rattle.card_image.proofs.card_retention.ListTrims.{day_trimmed}
use Rattle.card_image.proofs.card_retention.Newest.{word_late}
use Rattle.hand_model.specs.Manual.{is_by_hand, tells_by_hand}
use Rattle.hand_model.specs.AtStart.{marked_at, all_at, hands_at, AreFirst}
use Rattle.hand_model.specs.Written.{IsPartOf}
use Rattle.hand_model.proofs.Told.{own_in}
use Rattle.hand_model.proofs.Written.{part_self, part_both}
use Rattle.hand_model.specs.ByHand.{words_by_hand, by_hand_up_to, TellsHands, HandsUpTo}

-- ---- words behind a mark tell none up to it

words_behind : (mark date low : ℕ) (ws : List ℕ) → Ascend low ws → mark < date / 60 + low → words_by_hand mark date ws ≡ []
words_behind mark date low [] a lt = refl
words_behind mark date low (w ∷ ws) a lt =
    by (is_by_hand w) (nat_le (date / 60 + word_minute w) mark) (lt-leb (date / 60 + word_minute w) mark (omega (arith, lt, a.0))) (words_behind mark date (word_minute w) ws a.2 (omega (arith, lt, a.0)))
  where
    by : (h b : Bool) → b ≡ false → words_by_hand mark date ws ≡ [] → cond (h && b) (tells_by_hand date w ∷ words_by_hand mark date ws) (words_by_hand mark date ws) ≡ []
    by true true is rest = absurd (cc)
    by true false is rest = rest
    by false b is rest = rest

late_behind : (mark date : ℕ) (ds : List Day) → AreDays date ds → date_of mark ≤ date → by_hand_up_to mark ds ≡ []
late_behind mark date [] are le = refl
late_behind mark date (d ∷ ds) are le =
    ap (λ (l : List Manual). l ++ by_hand_up_to mark ds) (words_behind mark d.date 0 d.words (words_ascend d.words are.1.ordered) (omega (arith, are.0, le, are.1.midnight)))
    ∙ late_behind mark d.date ds are.2 (omega (arith, are.0, le))

-- ---- a cut

early_told : (mark date low : ℕ) (ws : List ℕ) → Ascend low ws → date ≡ date_of mark → words_by_hand mark date (early (mark % 1440) ws) ≡ words_by_hand mark date ws
early_told mark date low [] a at = refl
early_told mark date low (w ∷ ws) a at = by (nat_le (word_minute w) (mark % 1440)) refl (early_told mark date (word_minute w) ws a.2 at)
  where
    by : (b : Bool) → nat_le (word_minute w) (mark % 1440) ≡ b → words_by_hand mark date (early (mark % 1440) ws) ≡ words_by_hand mark date ws
        → words_by_hand mark date (cond b (w ∷ early (mark % 1440) ws) []) ≡ words_by_hand mark date (w ∷ ws)
    by true is rest = ap (λ (l : List Manual). cond (is_by_hand w && nat_le (date / 60 + word_minute w) mark) (tells_by_hand date w ∷ l) l) rest
    by false is rest = sym (words_behind mark date (word_minute w) (w ∷ ws) (omega arith, a.1, a.2) (omega (arith, leb-false (word_minute w) (mark % 1440) is, at)))

cut_told : (mark : ℕ) (d : Day) → IsDay d → words_by_hand mark (cut mark d).date (cut mark d).words ≡ words_by_hand mark d.date d.words
cut_told mark d is = by (nat_eq d.date (date_of mark)) refl
  where
    by : (b : Bool) → nat_eq d.date (date_of mark) ≡ b → words_by_hand mark (cond b (with_early (mark % 1440) d) d).date (cond b (with_early (mark % 1440) d) d).words ≡ words_by_hand mark d.date d.words
    by true here = early_told mark d.date 0 d.words (words_ascend d.words is.ordered) (eqb-true d.date (date_of mark) here)
    by false other = refl

pub told_trimmed : (mark date : ℕ) (ds : List Day) → AreDays date ds → by_hand_up_to mark (trimmed mark ds) ≡ by_hand_up_to mark ds
told_trimmed mark date [] are = refl
told_trimmed mark date (d ∷ ds) are = by (nat_le d.date (date_of mark)) refl (until (date_of mark) ds) (told_trimmed mark d.date ds are.2)
  where
    by : (b : Bool) → nat_le d.date (date_of mark) ≡ b → (us : List Day) → by_hand_up_to mark (with_newest (cut mark) us) ≡ by_hand_up_to mark ds
        → by_hand_up_to mark (with_newest (cut mark) (cond b (d ∷ us) [])) ≡ by_hand_up_to mark (d ∷ ds)
    by false is us rest = sym (late_behind mark (date_of mark) (d ∷ ds) (leb-false d.date (date_of mark) is, are.1, are.2) (omega arith))
    by true is [] rest = ap (λ (l : List Manual). l ++ []) (cut_told mark d are.1) ∙ ap (λ (l : List Manual). words_by_hand mark d.date d.words ++ l) rest
    by true is (u ∷ us) rest = ap (λ (l : List Manual). words_by_hand mark d.date d.words ++ l) rest

-- ---- two marks that no word is behind

same_tells : (a b date w : ℕ) (l : List Manual) → date / 60 + word_minute w ≤ a → date / 60 + word_minute w ≤ b
    → cond (is_by_hand w && nat_le (date / 60 + word_minute w) a) (tells_by_hand date w ∷ l) l ≡ cond (is_by_hand w && nat_le (date / 60 + word_minute w) b) (tells_by_hand date w ∷ l) l
same_tells a b date w l la lb =
    ap (λ (t : Bool). cond (is_by_hand w && t) (tells_by_hand date w ∷ l) l) (le-leb (date / 60 + word_minute w) a la ∙ sym (le-leb (date / 60 + word_minute w) b lb))

words_all : (a b date low : ℕ) (ws : List ℕ) → Ascend low ws → date / 60 + word_minute (last_word ws) ≤ a → date / 60 + word_minute (last_word ws) ≤ b → words_by_hand a date ws ≡ words_by_hand b date ws
words_all a b date low [] up la lb = refl
words_all a b date low (w ∷ []) up la lb = same_tells a b date w [] la lb
words_all a b date low (w ∷ v ∷ ws) up la lb =
    let first : word_minute w ≤ word_minute (last_word (w ∷ v ∷ ws)) = first_last low w (v ∷ ws) up in
    same_tells a b date w (words_by_hand a date (v ∷ ws)) (omega (arith, first, la)) (omega (arith, first, lb))
    ∙ ap (λ (l : List Manual). cond (is_by_hand w && nat_le (date / 60 + word_minute w) b) (tells_by_hand date w ∷ l) l) (words_all a b date (word_minute w) (v ∷ ws) up.2 la lb)

pub told_all : (a b date : ℕ) (ds : List Day) → AreDays date ds → newest_word ds ≤ a → newest_word ds ≤ b → by_hand_up_to a ds ≡ by_hand_up_to b ds
told_all a b date [] are la lb = refl
told_all a b date (d ∷ []) are la lb = ap (λ (l : List Manual). l ++ []) (words_all a b d.date 0 d.words (words_ascend d.words are.1.ordered) la lb)
told_all a b date (d ∷ e ∷ ds) are la lb =
    let late : e.date / 60 ≤ newest_word (e ∷ ds) = word_late d.date e ds are.2 in
    let last : d.date / 60 + word_minute (last_word d.words) ≤ newest_word (e ∷ ds) = omega (arith, late, are.2.0, are.1.midnight, are.2.1.midnight, words_below d.words are.1.ordered) in
    ap (λ (l : List Manual). l ++ by_hand_up_to a (e ∷ ds)) (words_all a b d.date 0 d.words (words_ascend d.words are.1.ordered) (omega (arith, last, la)) (omega (arith, last, lb)))
    ∙ ap (λ (l : List Manual). words_by_hand b d.date d.words ++ l) (told_all a b d.date (e ∷ ds) are.2 la lb)

-- ---- OF ALL ENTRIES BY HAND SO FAR days tell those whose day is there: behind a cut to the mark in all, where none of them is behind it

pub hands_trimmed : (mark : ℕ) (ds : List Day) → AreDays 0 ds → (all : List Manual) → HandsUpTo mark all → hands_in (sizes (trimmed mark ds)) all ≡ hands_in (sizes ds) all
hands_trimmed mark ds are [] up = refl
hands_trimmed mark ds are (e ∷ es) up =
    ap (λ (b : Bool). cond b (e ∷ hands_in (sizes (trimmed mark ds)) es) (hands_in (sizes (trimmed mark ds)) es)) (day_trimmed mark (e.minute / 1440) ds are (omega (arith, up.0)))
    ∙ ap (λ (l : List Manual). cond (is_day (e.minute / 1440) (sizes ds)) (e ∷ l) l) (hands_trimmed mark ds are es up.1)

pub tells_trimmed : (mark : ℕ) (all : List Manual) (ds : List Day) → AreDays 0 ds → HandsUpTo mark all → TellsHands mark all ds → TellsHands mark all (trimmed mark ds)
tells_trimmed mark all ds are up is = told_trimmed mark 0 ds are ∙ is ∙ sym (hands_trimmed mark ds are all up)

-- by any mark that no word is behind
pub tells_by : (a b : ℕ) (all : List Manual) (ds : List Day) → AreDays 0 ds → newest_word ds ≤ a → newest_word ds ≤ b → TellsHands a all ds → TellsHands b all ds
tells_by a b all ds are la lb is = told_all b a 0 ds are lb la ∙ is

-- what days tell is of their own days, and not behind the mark
up_words : (mark date : ℕ) (ws : List ℕ) → HandsUpTo mark (words_by_hand mark date ws)
up_words mark date [] = tt
up_words mark date (w ∷ ws) = by (is_by_hand w) (nat_le (date / 60 + word_minute w) mark) refl (up_words mark date ws)
  where
    by : (h b : Bool) → nat_le (date / 60 + word_minute w) mark ≡ b → HandsUpTo mark (words_by_hand mark date ws) → HandsUpTo mark (cond (h && b) (tells_by_hand date w ∷ words_by_hand mark date ws) (words_by_hand mark date ws))
    by true true is rest = (leb-true (date / 60 + word_minute w) mark is, rest)
    by true false is rest = rest
    by false b is rest = rest

pub up_append : (mark : ℕ) (es fs : List Manual) → HandsUpTo mark es → HandsUpTo mark fs → HandsUpTo mark (es ++ fs)
up_append mark [] fs a b = b
up_append mark (e ∷ es) fs a b = (a.0, up_append mark es fs a.1 b)

pub up_told : (mark : ℕ) (ds : List Day) → HandsUpTo mark (by_hand_up_to mark ds)
up_told mark [] = tt
up_told mark (d ∷ ds) = up_append mark (words_by_hand mark d.date d.words) (by_hand_up_to mark ds) (up_words mark d.date d.words) (up_told mark ds)

pub tells_own : (mark : ℕ) (ds : List Day) → AreDays 0 ds → TellsHands mark (by_hand_up_to mark ds) ds
tells_own mark ds are = sym (own_in mark 0 (sizes ds) ds are (λ k is. is))

-- up to a later minute too
pub up_more : (m n : ℕ) (es : List Manual) → m ≤ n → HandsUpTo m es → HandsUpTo n es
up_more m n [] le up = tt
up_more m n (e ∷ es) le up = (omega (arith, le, up.0), up_more m n es le up.1)

-- ---- by a later mark days tell more

part_skip : (some all : List Manual) (y : Manual) → IsPartOf some all → IsPartOf some (y ∷ all)
part_skip [] all y p = tt
part_skip (x ∷ some) all y p = inr p

part_words : (m n date : ℕ) (ws : List ℕ) → m ≤ n → IsPartOf (words_by_hand m date ws) (words_by_hand n date ws)
part_words m n date [] le = tt
part_words m n date (w ∷ ws) le = by (is_by_hand w) (nat_le (date / 60 + word_minute w) m) refl (nat_le (date / 60 + word_minute w) n) refl (part_words m n date ws le)
  where
    by : (h a : Bool) → nat_le (date / 60 + word_minute w) m ≡ a → (b : Bool) → nat_le (date / 60 + word_minute w) n ≡ b → IsPartOf (words_by_hand m date ws) (words_by_hand n date ws)
        → IsPartOf (cond (h && a) (tells_by_hand date w ∷ words_by_hand m date ws) (words_by_hand m date ws)) (cond (h && b) (tells_by_hand date w ∷ words_by_hand n date ws) (words_by_hand n date ws))
    by true true la true lb rest = inl (refl, rest)
    by true true la false lb rest = absurd (omega (arith, leb-true (date / 60 + word_minute w) m la, leb-false (date / 60 + word_minute w) n lb, le))
    by true false la true lb rest = part_skip (words_by_hand m date ws) (words_by_hand n date ws) (tells_by_hand date w) rest
    by true false la false lb rest = rest
    by false a la b lb rest = rest

pub part_marks : (m n : ℕ) (ds : List Day) → m ≤ n → IsPartOf (by_hand_up_to m ds) (by_hand_up_to n ds)
part_marks m n [] le = tt
part_marks m n (d ∷ ds) le = part_both (words_by_hand m d.date d.words) (words_by_hand n d.date d.words) (by_hand_up_to m ds) (by_hand_up_to n ds) (part_words m n d.date d.words le) (part_marks m n ds le)

-- those that may be told later have the ones or the others
pub part_first : (image : List ℕ) (first : List Manual) → AreFirst image first → IsPartOf first (hands_at image)
part_first image first (inl marked) = subst (λ (l : List Manual). IsPartOf l (hands_at image)) (sym marked) (by (nat_eq (own_view image).session 0))
  where
    by : (b : Bool) → IsPartOf (marked_at image) (cond b (all_at image) (marked_at image))
    by true = part_marks (own_view image).mark (max (own_view image).mark (newest_word (card_days (own_sizes image) image))) (card_days (own_sizes image) image) (omega arith)
    by false = part_self (marked_at image)
part_first image first (inr whole) =
    subst (λ (l : List Manual). IsPartOf l (hands_at image)) (sym whole.1) (subst (λ (b : Bool). IsPartOf (all_at image) (cond b (all_at image) (marked_at image))) (sym (eq-eqb (own_view image).session 0 whole.0)) (part_self (all_at image)))
