-- Of entries by hand days tell those whose day is there: over drops, words and days more.
use Rattle.std.proofs.Common.{◌≡◌, ⊎_elim, ℕ, ◌+◌, ◌/◌, ◌%◌, ◌<◌, Bool, true, false, cond, ◌||◌, List, [], ◌∷◌, ◌++◌, refl, sym, ◌∙◌, ap, subst, arith}
use Rattle.std.specs.Prelude.{◌&&◌, nat_eq, nat_le}
use Rattle.std.proofs.lemmas.Bool.Decides.{nat_tests}
use Rattle.activity_codec.specs.Words.{word_minute}
use Rattle.activity_codec.specs.declared.entries.Manual.{Manual}
use Rattle.card_image.specs.card_model.Days.{Day, AreDays, Ascend}
use Rattle.card_image.specs.card_model.Changes.{Remain}
use Rattle.card_image.proofs.card_model.Ascending.{words_ascend}
use Rattle.card_image.specs.card_retention.Expected.{WordDay}
use Rattle.card_image.specs.card_retention.Shown.{sizes, size_day}
use Rattle.card_image.specs.card_retention.Retains.{is_day}
use Rattle.card_image.specs.card_retention.ByHand.{hands_in}
use Rattle.card_image.proofs.card_retention.Listing.{day_not, is_day_append}
use Rattle.hand_model.specs.Manual.{is_by_hand, tells_by_hand}
use Rattle.hand_model.specs.ByHand.{words_by_hand, by_hand_up_to, TellsHands, HandsUpTo, HandsBefore}

pub in_append : (ws : List WordDay) (es fs : List Manual) → hands_in ws (es ++ fs) ≡ hands_in ws es ++ hands_in ws fs
in_append ws [] fs = refl
in_append ws (e ∷ es) fs = by (is_day (e.minute / 1440) ws) (in_append ws es fs)
  where
    by : (b : Bool) → hands_in ws (es ++ fs) ≡ hands_in ws es ++ hands_in ws fs → cond b (e ∷ hands_in ws (es ++ fs)) (hands_in ws (es ++ fs)) ≡ cond b (e ∷ hands_in ws es) (hands_in ws es) ++ hands_in ws fs
    by true rest = ap (λ (l : List Manual). e ∷ l) rest
    by false rest = rest

-- some of some
less_in : (w : WordDay) (ws : List WordDay) (es : List Manual) → hands_in ws (hands_in (w ∷ ws) es) ≡ hands_in ws es
less_in w ws [] = refl
less_in w ws (e ∷ es) = by (nat_eq w.day (e.minute / 1440)) (is_day (e.minute / 1440) ws) refl (less_in w ws es)
  where
    by : (a b : Bool) → is_day (e.minute / 1440) ws ≡ b → hands_in ws (hands_in (w ∷ ws) es) ≡ hands_in ws es
        → hands_in ws (cond (a || b) (e ∷ hands_in (w ∷ ws) es) (hands_in (w ∷ ws) es)) ≡ cond b (e ∷ hands_in ws es) (hands_in ws es)
    by true true is rest = ap (λ (c : Bool). cond c (e ∷ hands_in ws (hands_in (w ∷ ws) es)) (hands_in ws (hands_in (w ∷ ws) es))) is ∙ ap (λ (l : List Manual). e ∷ l) rest
    by false true is rest = ap (λ (c : Bool). cond c (e ∷ hands_in ws (hands_in (w ∷ ws) es)) (hands_in ws (hands_in (w ∷ ws) es))) is ∙ ap (λ (l : List Manual). e ∷ l) rest
    by true false is rest = ap (λ (c : Bool). cond c (e ∷ hands_in ws (hands_in (w ∷ ws) es)) (hands_in ws (hands_in (w ∷ ws) es))) is ∙ rest
    by false false is rest = rest

-- those of a day's words are of that day
abbrev pub AllDay : ℕ → List Manual → Type 0
AllDay k [] = Unit {0}
AllDay k (e ∷ es) = (e.minute / 1440 ≡ k) × AllDay k es

pub words_day : (mark date minute : ℕ) (ws : List ℕ) → date % 86400 ≡ 0 → Ascend minute ws → AllDay (date / 86400) (words_by_hand mark date ws)
words_day mark date minute [] midnight up = tt
words_day mark date minute (w ∷ ws) midnight up = by (is_by_hand w && nat_le (date / 60 + word_minute w) mark) (words_day mark date (word_minute w) ws midnight up.2)
  where
    by : (b : Bool) → AllDay (date / 86400) (words_by_hand mark date ws) → AllDay (date / 86400) (cond b (tells_by_hand date w ∷ words_by_hand mark date ws) (words_by_hand mark date ws))
    by true rest = (omega (arith, midnight, up.1), rest)
    by false rest = rest

none_in : (k : ℕ) (ws : List WordDay) (es : List Manual) → is_day k ws ≡ false → AllDay k es → hands_in ws es ≡ []
none_in k ws [] is a = refl
none_in k ws (e ∷ es) is a = ap (λ (b : Bool). cond b (e ∷ hands_in ws es) (hands_in ws es)) (ap (λ (m : ℕ). is_day m ws) a.0 ∙ is) ∙ none_in k ws es is a.1

same_in : (k : ℕ) (ws : List WordDay) (es : List Manual) → is_day k ws ≡ true → AllDay k es → hands_in ws es ≡ es
same_in k ws [] is a = refl
same_in k ws (e ∷ es) is a = ap (λ (b : Bool). cond b (e ∷ hands_in ws es) (hands_in ws es)) (ap (λ (m : ℕ). is_day m ws) a.0 ∙ is) ∙ ap (λ (l : List Manual). e ∷ l) (same_in k ws es is a.1)

-- what days tell is of their days: of later ones too
pub own_in : (mark date : ℕ) (vs : List WordDay) (ds : List Day) → AreDays date ds → ((k : ℕ) → is_day k (sizes ds) ≡ true → is_day k vs ≡ true) → hands_in vs (by_hand_up_to mark ds) ≡ by_hand_up_to mark ds
own_in mark date vs [] are there = refl
own_in mark date vs (d ∷ ds) are there =
    in_append vs (words_by_hand mark d.date d.words) (by_hand_up_to mark ds)
    ∙ ap (λ (l : List Manual). l ++ hands_in vs (by_hand_up_to mark ds)) (same_in (d.date / 86400) vs (words_by_hand mark d.date d.words) (there (d.date / 86400) (first (d.date / 86400) (is_day (d.date / 86400) (sizes ds)))) (words_day mark d.date 0 d.words are.1.midnight (words_ascend d.words are.1.ordered)))
    ∙ ap (λ (l : List Manual). words_by_hand mark d.date d.words ++ l) (own_in mark d.date vs ds are.2 (λ k is. there k (further (nat_eq (d.date / 86400) k) (is_day k (sizes ds)) is)))
  where
    first : (k : ℕ) (b : Bool) → nat_eq k k || b ≡ true
    first k b = grind (arith, nat_tests)

    further : (a b : Bool) → b ≡ true → a || b ≡ true
    further true b is = refl
    further false b is = is

-- A DROP
pub tells_less : (mark date : ℕ) (all : List Manual) (d : Day) (ds : List Day) → AreDays date (d ∷ ds) → TellsHands mark all (d ∷ ds) → TellsHands mark all ds
tells_less mark date all d ds are is =
    sym (own_in mark d.date (sizes ds) ds are.2 (λ k is. is))
    ∙ ap (λ (l : List Manual). l ++ hands_in (sizes ds) (by_hand_up_to mark ds)) (sym (none_in (d.date / 86400) (sizes ds) (words_by_hand mark d.date d.words) (day_not (d.date / 86400) d.date ds are.2 (omega arith) are.1.midnight) (words_day mark d.date 0 d.words are.1.midnight (words_ascend d.words are.1.ordered))))
    ∙ sym (in_append (sizes ds) (words_by_hand mark d.date d.words) (by_hand_up_to mark ds))
    ∙ ap (λ (l : List Manual). hands_in (sizes ds) l) is
    ∙ less_in (size_day d) (sizes ds) all

pub tells_left : (mark room date : ℕ) (all : List Manual) (days kept : List Day) → AreDays date days → Remain room days kept → TellsHands mark all days → TellsHands mark all kept
tells_left mark room date all [] kept are left is = subst (λ (l : List Day). TellsHands mark all l) (sym left) is
tells_left mark room date all (d ∷ ds) kept are left is = ⊎_elim
    (λ same. subst (λ (l : List Day). TellsHands mark all l) (sym same) is)
    (λ gone. tells_left mark room d.date all ds kept are.2 gone.1 (tells_less mark date all d ds are is)) left

-- the same days, and so many more of them told
pub in_same : (vs ws : List WordDay) → ((k : ℕ) → is_day k vs ≡ is_day k ws) → (es : List Manual) → hands_in vs es ≡ hands_in ws es
in_same vs ws same [] = refl
in_same vs ws same (e ∷ es) = ap (λ (b : Bool). cond b (e ∷ hands_in vs es) (hands_in vs es)) (same (e.minute / 1440)) ∙ ap (λ (l : List Manual). cond (is_day (e.minute / 1440) ws) (e ∷ l) l) (in_same vs ws same es)

-- A DAY behind those of all of them has none of them
pub in_day : (all : List Manual) (ds : List Day) (d : Day) → HandsBefore (d.date / 86400) all → hands_in (sizes (ds ++ d ∷ [])) all ≡ hands_in (sizes ds) all
in_day [] ds d up = refl
in_day (e ∷ es) ds d up =
    ap (λ (b : Bool). cond b (e ∷ hands_in (sizes (ds ++ d ∷ [])) es) (hands_in (sizes (ds ++ d ∷ [])) es)) (is_day_append (e.minute / 1440) ds d (apart (d.date / 86400) (e.minute / 1440) up.0))
    ∙ ap (λ (l : List Manual). cond (is_day (e.minute / 1440) (sizes ds)) (e ∷ l) l) (in_day es ds d up.1)
  where
    apart : (m k : ℕ) → k < m → nat_eq m k ≡ false
    apart m k lt = grind (arith, nat_tests)

-- a day that is later than the last minute is later than theirs
pub hands_before : (last day : ℕ) (all : List Manual) → last / 1440 < day → HandsUpTo last all → HandsBefore day all
hands_before last day [] lt up = tt
hands_before last day (e ∷ es) lt up = (omega (arith, lt, up.0), hands_before last day es lt up.1)
