-- A keep whose end mark has moved shows its entry behind those of before, where no minute behind the old end mark told one.
use Rattle.std.proofs.Common.{◌≡◌, inl, inr, ⊎_elim, ℕ, zero, suc, ◌+◌, ◌-◌, ◌*◌, ◌/◌, ◌%◌, ◌<◌, ◌≤◌, Bool, true, false, cond, ◌&&◌, not, Option, Some, None, List, [], ◌∷◌, ◌++◌, length, refl, sym, ◌∙◌, ap, subst, arith}
use Rattle.std.specs.Prelude.{◌⊎◌, ◌||◌, nat_eq, nat_lt, nat_le}
use Rattle.std.proofs.lemmas.Bool.Decides.{nat_tests}
use Rattle.std.proofs.lemmas.Bool.{eqb-false, eqb-true}
use Rattle.activity_codec.specs.declared.values.Activity.{Activity}
use Rattle.activity_codec.specs.declared.values.Activity.TheVariants.{Rest}
use Rattle.activity_codec.specs.declared.entries.Entry.{Entry}
use Rattle.activity_codec.specs.Words.{word_minute, word_absent, word_slot, word_crew, word_act}
use Rattle.tacho_types.specs.declared.texts.Registration.{Registration}
use Rattle.card_layout.specs.declared.files.Application.{Application}
use Rattle.card_layout.specs.Application.{IsApplication}
use Rattle.card_layout.specs.Files.{image_size_of}
use Rattle.card_days.specs.card_model.Days.{Day, AreDays, last_word}
use Rattle.card_days.specs.card_model.Changes.{Remain, OnNewest, fitting, with_newest, with_word, new_day, date_of}
use Rattle.card_days.proofs.card_model.Lists.{last_is}
use Rattle.card_days.proofs.card_model.Retention.{remain_fitting, remain_some}
use Rattle.card_validity.specs.card_retention.Expected.{WordDay, is_newest}
use Rattle.card_validity.specs.card_retention.Shown.{sizes, is_open, AllUpTo, Tells, TellsIn, Entered, Entered.Same, Entered.Word, Entered.Begun}
use Rattle.card_validity.specs.card_retention.Entries.{latest, told_by, entry_at, minutes_from, day_entries, entries_up_to, newest_word}
use Rattle.card_validity.specs.card_retention.Retains.{is_day, entries_in}
use Rattle.card_validity.proofs.card_retention.Entering.{on_word, on_append, last_append, date_newest}
use Rattle.card_validity.proofs.card_retention.Newest.{latest_last}
use Rattle.card_validity.proofs.card_retention.Committing.{QuietDay, Quiet, Olds, told_back, commits}
use Rattle.card_validity.proofs.card_retention.ListTrims.{QuietEnd, quiet}
use Rattle.card_validity.proofs.card_retention.Listing.{Lists}
use Rattle.card_validity.specs.card_image.Fields.{card_days, end_mark}
use Rattle.card_session.specs.Books.{Book, mark_of, latest_of, closing_word, with_change, gap_closed, closed_days, closed, last_used, entry_word, bare_word, day_words, tells_state, with_new_day, entered_days, travelled}
use Rattle.card_session.specs.Sessions.{book_of}
use Rattle.card_session.specs.Moments.{IsBook, IsKeepMoment, IsCloseMoment}
use Rattle.card_session.specs.Cards.{IsCard, ended}
use Rattle.card_session.specs.Parts.{IsBeforeGapOf}
use Rattle.card_session.specs.Overwriting.{ShowsEntries, IsSilentBehind, TellsNoLater, BeginsBehind}
use Rattle.card_session.proofs.Following.{closing_minute, entry_minute}
use Rattle.card_session.proofs.Preparing.{gap_are, gap_ready, words_last, open_date}
use Rattle.card_session.proofs.Lasting.{entered_as}
use Rattle.card_session.proofs.Alike.{alike_km, are_bare, entries_alike, sizes_alike, word_alike}
use Rattle.card_session.proofs.Marks.{mark_told}
use Rattle.card_session.proofs.Surviving.{entered_survives, closing_survives, lists_survive, newest_gapped}
use Rattle.card_session.proofs.Stopping.{closing_absent, book_days, mark_at, before_use, mark_moves, ended_days, ended_mark}

-- ---- no minute between the end mark and an entry tells one

quiet_left : (mark next room : ℕ) (days kept : List Day) → Remain room days kept → Quiet mark next days → Quiet mark next kept
quiet_left mark next room [] kept left q = subst (λ (l : List Day). Quiet mark next l) (sym left) tt
quiet_left mark next room (d ∷ ds) kept left q = ⊎_elim
    (λ same. subst (λ (l : List Day). Quiet mark next l) (sym same) q)
    (λ gone. quiet_left mark next room ds kept gone.1 q.1) left

above : (m n : ℕ) → n < m → nat_le m n ≡ false
above m n lt = grind (arith, nat_tests)

latest_skip : (t : ℕ) (ws : List ℕ) (w : ℕ) → t < word_minute w → latest (ws ++ w ∷ []) t ≡ latest ws t
latest_skip t [] w lt = ap (λ (b : Bool). cond b (Some w) None) (above (word_minute w) t lt)
latest_skip t (v ∷ ws) w lt = ap (λ (o : Option ℕ). elim o as (λ _. Option ℕ) [ Some x ↦ Some x | None ↦ cond (nat_le (word_minute v) t) (Some v) None ]) (latest_skip t ws w lt)

quiet_day : (mark next w : ℕ) (d : Day) → d.date ≡ date_of next → word_minute w ≡ next % 1440 → QuietDay mark next d → QuietDay mark next (with_word w d)
quiet_day mark next w d date minute q t low behind before =
    ap (λ (o : Option ℕ). told_by (d.date / 60 + t) o) (latest_skip t d.words w (omega (arith, date, minute, before))) ∙ q t low behind before

quiet_word : (mark next w : ℕ) (ds : List Day) → word_minute w ≡ next % 1440 → OnNewest (λ d. d.date ≡ date_of next) ds → Quiet mark next ds → Quiet mark next (with_newest (with_word w) ds)
quiet_word mark next w [] minute on q = absurd on
quiet_word mark next w (d ∷ []) minute on q = (quiet_day mark next w d on minute q.0, tt)
quiet_word mark next w (d ∷ e ∷ ds) minute on q = (q.0, quiet_word mark next w (e ∷ ds) minute on q.1)

quiet_append : (mark next : ℕ) (ds : List Day) (d : Day) → Quiet mark next ds → QuietDay mark next d → Quiet mark next (ds ++ d ∷ [])
quiet_append mark next [] d q one = (one, tt)
quiet_append mark next (e ∷ ds) d q one = (q.0, quiet_append mark next ds d q.1 one)

-- a day that begins with an entry
quiet_new : (mark : ℕ) (e : Entry) (d : Day) → d.date ≡ date_of e.minute → d.words ≡ day_words e → QuietDay mark e.minute d
quiet_new mark e d date words t low behind before =
    ap (λ (l : List ℕ). told_by (d.date / 60 + t) (latest l t)) words ∙ by (nat_eq (e.minute % 1440) 0) refl
  where
    bare : (b : Bool) → told_by (d.date / 60 + t) (cond b (Some bare_word) None) ≡ None
    bare true = refl
    bare false = refl

    early : t < word_minute (entry_word e)
    early = omega (arith, date, before, entry_minute e)

    by : (b : Bool) → nat_eq (e.minute % 1440) 0 ≡ b → told_by (d.date / 60 + t) (latest (cond b (entry_word e ∷ []) (bare_word ∷ entry_word e ∷ [])) t) ≡ None
    by true is = absurd (omega (arith, early, entry_minute e, eqb-true (e.minute % 1440) 0 is))
    by false is =
        ap (λ (o : Option ℕ). told_by (d.date / 60 + t) (elim o as (λ _. Option ℕ) [ Some x ↦ Some x | None ↦ cond (nat_le (word_minute bare_word) t) (Some bare_word) None ])) (latest_skip t [] (entry_word e) early)
        ∙ bare (nat_le (word_minute bare_word) t)

-- behind the newest word, where no gap is to be closed
quiet_end : (mark next date : ℕ) (d : Day) (ds : List Day) → AreDays date (d ∷ ds) → newest_word (d ∷ ds) ≤ mark → is_open mark (d ∷ ds) && nat_lt (suc mark) next ≡ false → OnNewest (QuietEnd mark next) (d ∷ ds)
quiet_end mark next date d [] are low shut = record { begins = omega (arith, low); last = omega (arith, low); ends = by (nat_lt (suc mark) next) (nat_eq d.date (date_of (suc mark))) (word_absent (last_word d.words)) refl refl refl shut }
  where
    not_less : (m n : ℕ) → nat_lt m n ≡ false → n ≤ m
    not_less m n is = grind (arith, nat_tests)

    by : (g same absent : Bool) → nat_lt (suc mark) next ≡ g → nat_eq d.date (date_of (suc mark)) ≡ same → word_absent (last_word d.words) ≡ absent → (same && not absent) && g ≡ false
        → (word_absent (last_word d.words) ≡ true) ⊎ ((next ≤ suc mark) ⊎ (d.date / 60 + 1439 ≤ mark))
    by g same true gap here told shut = inl told
    by false same false gap here told shut = inr (inl (not_less (suc mark) next gap))
    by true true false gap here told shut = absurd (cc)
    by true false false gap here told shut =
        let other = eqb-false d.date (date_of (suc mark)) here in
        inr (inr (omega (arith, other, low, are.1.midnight)))
quiet_end mark next date d (e ∷ ds) are low shut = quiet_end mark next d.date e ds are.2 low shut

quiet_days : (mark next : ℕ) (ds : List Day) → AreDays 0 ds → newest_word ds ≤ mark → is_open mark ds && nat_lt (suc mark) next ≡ false → Quiet mark next ds
quiet_days mark next [] are low shut = tt
quiet_days mark next (d ∷ ds) are low shut = quiet mark next 0 (d ∷ ds) are (quiet_end mark next 0 d ds are low shut)

-- the same for each entry that may come
silent_all : (mark : ℕ) (ds : List Day) → ((next : ℕ) → Quiet mark next ds) → IsSilentBehind mark ds
silent_all mark [] q = tt
silent_all mark (d ∷ ds) q = (λ t low behind. (q (suc (d.date / 60 + t))).0 t low behind (omega arith), silent_all mark ds (λ next. (q next).1))

pub silent_end : (mark : ℕ) (ds : List Day) → AreDays 0 ds → newest_word ds ≤ mark → is_open mark ds ≡ false → IsSilentBehind mark ds
silent_end mark ds are low shut = silent_all mark ds (λ next. quiet_days mark next ds are low (none (is_open mark ds) (nat_lt (suc mark) next) shut))
  where
    none : (o g : Bool) → o ≡ false → o && g ≡ false
    none false g is = refl
    none true g is = absurd (cc)

silent_quiet : (mark next : ℕ) (ds : List Day) → IsSilentBehind mark ds → Quiet mark next ds
silent_quiet mark next [] s = tt
silent_quiet mark next (d ∷ ds) s = (λ t low behind before. s.0 t low behind, silent_quiet mark next ds s.1)

-- no minute lies between
none_between : (mark next : ℕ) (ds : List Day) → next ≤ suc mark → Quiet mark next ds
none_between mark next [] le = tt
none_between mark next (d ∷ ds) le = (λ t low behind before. absurd (omega (arith, le, behind, before)), none_between mark next ds le)

-- ---- the newest day tells the entry

pub entered_tells : (size : ℕ) → 5544 ≤ size → (e : Entry) (ds after : List Day) → AreDays 0 ds → Entered size e ds after → Tells e after
entered_tells size long e ds after are (Same newest tells) = tells
entered_tells size long e ds after are (Word w newest new state minute) =
    on_word (λ d. d.date ≡ e.minute / 1440 * 86400) (TellsIn e) w (fitting (size - 2) ds) (λ d is. record { date = is; state = ap (λ (v : ℕ). v / 2048) (last_append d.words w) ∙ state })
    (remain_some (λ d. d.date ≡ e.minute / 1440 * 86400) (size - 2) 0 ds (fitting (size - 2) ds) (omega (arith, long)) are (remain_fitting (size - 2) ds) (date_newest (e.minute / 1440) 0 ds are newest))
entered_tells size long e ds after are (Begun words newest count state minute) =
    on_append (TellsIn e) (fitting (size - (12 + 2 * length words)) ds) (new_day ds (date_of e.minute) words) (record { date = refl; state = state })

entered_quiet : (mark size : ℕ) → 5544 ≤ size → (e : Entry) (ds : List Day) → AreDays 0 ds → Quiet mark e.minute ds → Quiet mark e.minute (entered_days size e ds)
entered_quiet mark size long e ds are q = by (is_newest (e.minute / 1440) (sizes ds)) (tells_state e ds) refl
  where
    by : (n told : Bool) → is_newest (e.minute / 1440) (sizes ds) ≡ n → Quiet mark e.minute (cond n (cond told ds (with_change size (entry_word e) ds)) (with_new_day size e ds))
    by true true is = q
    by true false is =
        quiet_word mark e.minute (entry_word e) (fitting (size - 2) ds) (entry_minute e)
        (remain_some (λ d. d.date ≡ e.minute / 1440 * 86400) (size - 2) 0 ds (fitting (size - 2) ds) (omega (arith, long)) are (remain_fitting (size - 2) ds) (date_newest (e.minute / 1440) 0 ds are is))
        (quiet_left mark e.minute (size - 2) ds (fitting (size - 2) ds) (remain_fitting (size - 2) ds) q)
    by false told is =
        quiet_append mark e.minute (fitting (size - (12 + 2 * length (day_words e))) ds) (new_day ds (date_of e.minute) (day_words e))
        (quiet_left mark e.minute (size - (12 + 2 * length (day_words e))) ds (fitting (size - (12 + 2 * length (day_words e))) ds) (remain_fitting (size - (12 + 2 * length (day_words e))) ds) q)
        (quiet_new mark e (new_day ds (date_of e.minute) (day_words e)) refl refl)

-- ---- days with an entry on the newest

record Split (ds : List Day) : Type 0 where
  olds : List Day
  d : Day
  is : ds ≡ olds ++ d ∷ []

split : (d : Day) (ds : List Day) → Split (d ∷ ds)
split d [] = record { olds = []; d = d; is = refl }
split d (e ∷ ds) = let s = split e ds in record { olds = d ∷ s.olds; d = s.d; is = ap (λ (l : List Day). d ∷ l) s.is }

on_last : (P : Day → Type 0) (olds : List Day) (d : Day) → OnNewest P (olds ++ d ∷ []) → P d
on_last P [] d on = on
on_last P (e ∷ []) d on = on
on_last P (e ∷ f ∷ olds) d on = on_last P (f ∷ olds) d on

quiet_split : (mark next : ℕ) (olds : List Day) (d : Day) → Quiet mark next (olds ++ d ∷ []) → Quiet mark next olds × QuietDay mark next d
quiet_split mark next [] d q = (tt, q.0)
quiet_split mark next (e ∷ olds) d q = let rest = quiet_split mark next olds d q.1 in ((q.0, rest.0), rest.1)

first_below : (date : ℕ) (olds : List Day) (d : Day) → AreDays date (olds ++ d ∷ []) → date < d.date
first_below date [] d are = are.0
first_below date (e ∷ olds) d are = let rest = first_below e.date olds d are.2 in omega (arith, are.0, rest)

olds_before : (date : ℕ) (olds : List Day) (d : Day) → AreDays date (olds ++ d ∷ []) → Olds d.date olds
olds_before date [] d are = tt
olds_before date (e ∷ olds) d are = (are.1.midnight, first_below e.date olds d are.2, olds_before e.date olds d are.2)

word_last : (olds : List Day) (d : Day) → newest_word (olds ++ d ∷ []) ≡ d.date / 60 + word_minute (last_word d.words)
word_last [] d = refl
word_last (e ∷ []) d = refl
word_last (e ∷ f ∷ olds) d = word_last (f ∷ olds) d

-- the entry comes behind those of before
commits_on : (mark : ℕ) (e : Entry) (ds : List Day) → AreDays 0 ds → mark < e.minute → Quiet mark e.minute ds → Tells e ds → newest_word ds ≤ e.minute → entries_up_to e.minute ds ≡ entries_up_to mark ds ++ e ∷ []
commits_on mark e [] are lt q tells low = absurd tells
commits_on mark e (x ∷ xs) are lt q tells low =
    subst (λ (l : List Day). entries_up_to e.minute l ≡ entries_up_to mark l ++ e ∷ []) (sym s.is)
    (commits mark e s.olds s.d s.d lt quiets.0 quiets.1 (subst (λ (n : ℕ). Olds n s.olds) here.date (olds_before 0 s.olds s.d ordered)) refl here.date (λ t before. refl)
    (ap (λ (o : Option ℕ). told_by e.minute o) (latest_last (e.minute % 1440) s.d.words (last_is 0 s.olds s.d ordered).ordered (omega (arith, last, here.date))) ∙ told_back e e.minute (last_word s.d.words) refl here.state))
  where
    s : Split (x ∷ xs)
    s = split x xs

    ordered : AreDays 0 (s.olds ++ s.d ∷ [])
    ordered = subst (λ (l : List Day). AreDays 0 l) s.is are

    quiets : Quiet mark e.minute s.olds × QuietDay mark e.minute s.d
    quiets = quiet_split mark e.minute s.olds s.d (subst (λ (l : List Day). Quiet mark e.minute l) s.is q)

    here : TellsIn e s.d
    here = on_last (TellsIn e) s.olds s.d (subst (λ (l : List Day). Tells e l) s.is tells)

    last : s.d.date / 60 + word_minute (last_word s.d.words) ≤ e.minute
    last = subst (λ (n : ℕ). n ≤ e.minute) (ap newest_word s.is ∙ word_last s.olds s.d) low

-- ---- the entries of all

append_in : (ws : List WordDay) (es : List Entry) (e : Entry) → entries_in ws (es ++ e ∷ []) ≡ entries_in ws es ++ entries_in ws (e ∷ [])
append_in ws [] e = refl
append_in ws (x ∷ es) e = by (is_day (x.minute / 1440) ws) (append_in ws es e)
  where
    by : (b : Bool) → entries_in ws (es ++ e ∷ []) ≡ entries_in ws es ++ entries_in ws (e ∷ []) → cond b (x ∷ entries_in ws (es ++ e ∷ [])) (entries_in ws (es ++ e ∷ [])) ≡ cond b (x ∷ entries_in ws es) (entries_in ws es) ++ entries_in ws (e ∷ [])
    by true rest = ap (λ (l : List Entry). x ∷ l) rest
    by false rest = rest

tells_day : (e : Entry) (ds : List Day) → Tells e ds → is_day (e.minute / 1440) (sizes ds) ≡ true
tells_day e [] tells = absurd tells
tells_day e (d ∷ []) tells = ap (λ (b : Bool). b || false) (equal (d.date / 86400) (e.minute / 1440) (omega (arith, tells.date)))
  where
    equal : (m n : ℕ) → m ≡ n → nat_eq m n ≡ true
    equal m n is = grind (arith, nat_tests)
tells_day e (d ∷ f ∷ ds) tells = ap (λ (b : Bool). nat_eq (d.date / 86400) (e.minute / 1440) || b) (tells_day e (f ∷ ds) tells) ∙ either (nat_eq (d.date / 86400) (e.minute / 1440))
  where
    either : (b : Bool) → b || true ≡ true
    either true = refl
    either false = refl

lists_then : (mark : ℕ) (e : Entry) (all : List Entry) (ds : List Day) → Tells e ds → entries_up_to e.minute ds ≡ entries_up_to mark ds ++ e ∷ [] → Lists mark all ds → Lists e.minute (all ++ e ∷ []) ds
lists_then mark e all ds tells more is =
    more ∙ ap (λ (l : List Entry). l ++ e ∷ []) is
    ∙ ap (λ (l : List Entry). entries_in (sizes ds) all ++ l) (sym (ap (λ (b : Bool). cond b (e ∷ []) []) (tells_day e ds tells)))
    ∙ sym (append_in (sizes ds) all e)

-- ---- a keep

module _ (size : ℕ) (long : 5544 ≤ size) (b : Book) (ordered : AreDays 0 b.days) (e : Entry) (before : IsBeforeGapOf e.minute b) (silent : is_open (mark_of b) b.days ≡ false → IsSilentBehind (mark_of b) b.days) where
  abbrev gapped : List Day
  gapped = gap_closed size (mark_of b) e.minute b.days

  abbrev w : ℕ
  w = closing_word (suc (mark_of b)) Rest (latest_of b.days)

  are : AreDays 0 gapped
  are = gap_are size long b ordered e.minute before

  quiet_gap : Quiet (mark_of b) e.minute gapped
  quiet_gap = by (is_open (mark_of b) b.days) (nat_lt (suc (mark_of b)) e.minute) refl refl are
    where
      not_less : (m n : ℕ) → nat_lt m n ≡ false → n ≤ m
      not_less m n is = grind (arith, nat_tests)

      by : (o g : Bool) → is_open (mark_of b) b.days ≡ o → nat_lt (suc (mark_of b)) e.minute ≡ g → AreDays 0 (cond (o && g) (with_newest (with_word w) (fitting (size - 2) b.days)) b.days)
          → Quiet (mark_of b) e.minute (cond (o && g) (with_newest (with_word w) (fitting (size - 2) b.days)) b.days)
      by false g shut gap are = silent_quiet (mark_of b) e.minute b.days (silent shut)
      by true false is gap are = none_between (mark_of b) e.minute b.days (not_less (suc (mark_of b)) e.minute gap)
      by true true is gap are =
          quiet (mark_of b) e.minute 0 (with_newest (with_word w) (fitting (size - 2) b.days)) are
          (on_word (λ d. d.date ≡ date_of (suc (mark_of b))) (QuietEnd (mark_of b) e.minute) w (fitting (size - 2) b.days)
          (λ d date. record {
            begins = omega (arith, date);
            last = omega (arith, date, ap word_minute (last_append d.words w), closing_minute (suc (mark_of b)) Rest (latest_of b.days));
            ends = inl (ap word_absent (last_append d.words w) ∙ closing_absent (suc (mark_of b)) Rest (latest_of b.days));
          })
          (remain_some (λ d. d.date ≡ date_of (suc (mark_of b))) (size - 2) 0 b.days (fitting (size - 2) b.days) (omega (arith, long)) ordered (remain_fitting (size - 2) b.days) (open_date (mark_of b) b.days is)))

  pub commit_shows : (all : List Entry) → AllUpTo (mark_of b) all → Lists (mark_of b) all b.days → (is_newest (e.minute / 1440) (sizes gapped) ≡ false → mark_of b / 1440 < e.minute / 1440) → (more : ℕ) → AreDays 0 (travelled more (entered_days size e gapped))
      → Lists e.minute (all ++ e ∷ []) (travelled more (entered_days size e gapped))
  commit_shows all up shown clear more whole =
      let alike = alike_km more (entered_days size e gapped) in
      let tells : Tells e (entered_days size e gapped) = entered_tells size long e gapped (entered_days size e gapped) are (entered_as size e gapped are) in
      let last = words_last size long (record { days = gapped; vehicles = b.vehicles }) are e (gap_ready size long b ordered e.minute before e refl) in
      let one = commits_on (mark_of b) e (entered_days size e gapped) (are_bare more 0 (entered_days size e gapped) whole) (omega (arith, before.1)) (entered_quiet (mark_of b) size long e gapped are quiet_gap) tells last.0 in
      let there = lists_then (mark_of b) e all (entered_days size e gapped) tells one (entered_survives size long b ordered (Lists (mark_of b) all) (Lists (mark_of b) all) (lists_survive (mark_of b) all up) shown e before clear) in
      entries_alike e.minute (entered_days size e gapped) (travelled more (entered_days size e gapped)) alike
      ∙ there ∙ ap (λ (l : List WordDay). entries_in l (all ++ e ∷ [])) (sym (sizes_alike (entered_days size e gapped) (travelled more (entered_days size e gapped)) alike))

-- ---- a withdrawal whose end mark has moved

minutes_between : (f g : ℕ → Option Entry) (n t : ℕ) → ((s : ℕ) → t ≤ s → s < t + n → f s ≡ g s) → minutes_from f n t ≡ minutes_from g n t
minutes_between f g zero t same = refl
minutes_between f g (suc n) t same =
    ap (λ (o : Option Entry). elim o as (λ _. List Entry) [ Some x ↦ x ∷ minutes_from f n (t + 1) | None ↦ minutes_from f n (t + 1) ]) (same t (omega arith) (omega arith))
    ∙ ap (λ (l : List Entry). elim (g t) as (λ _. List Entry) [ Some x ↦ x ∷ l | None ↦ l ]) (minutes_between f g n (t + 1) (λ s lo hi. same s (omega (arith, lo)) (omega (arith, hi))))

-- the minute behind the mark tells none
day_next : (mark : ℕ) (d : Day) → ((t : ℕ) → t < 1440 → d.date / 60 + t ≡ suc mark → told_by (d.date / 60 + t) (latest d.words t) ≡ None) → day_entries (suc mark) d ≡ day_entries mark d
unfolding day_entries
day_next mark d none = minutes_between (entry_at (suc mark) d) (entry_at mark d) 1440 0 (λ s lo hi. at s (omega (arith, hi)))
  where
    le_of : (m n : ℕ) → nat_le m n ≡ true → m ≤ n
    le_of m n is = grind (arith, nat_tests)

    gt_of : (m n : ℕ) → nat_le m n ≡ false → n < m
    gt_of m n is = grind (arith, nat_tests)

    at : (s : ℕ) → s < 1440 → entry_at (suc mark) d s ≡ entry_at mark d s
    at s hi = by (nat_le (d.date / 60 + s) (suc mark)) (nat_le (d.date / 60 + s) mark) refl refl
      where
        by : (a b : Bool) → nat_le (d.date / 60 + s) (suc mark) ≡ a → nat_le (d.date / 60 + s) mark ≡ b → cond a (told_by (d.date / 60 + s) (latest d.words s)) None ≡ cond b (told_by (d.date / 60 + s) (latest d.words s)) None
        by true true up low = refl
        by false false up low = refl
        by true false up low = none s hi (omega (arith, le_of (d.date / 60 + s) (suc mark) up, gt_of (d.date / 60 + s) mark low))
        by false true up low = absurd (omega (arith, gt_of (d.date / 60 + s) (suc mark) up, le_of (d.date / 60 + s) mark low))

-- the newest day lies at that minute, and an absent word stands there
record ClosesAt (m : ℕ) (d : Day) : Type 0 where
  date : d.date ≡ date_of m
  minute : word_minute (last_word d.words) ≡ m % 1440
  absent : word_absent (last_word d.words) ≡ true

next_entries : (mark date : ℕ) (ds : List Day) → AreDays date ds → OnNewest (ClosesAt (suc mark)) ds → entries_up_to (suc mark) ds ≡ entries_up_to mark ds
next_entries mark date [] are on = absurd on
next_entries mark date (d ∷ []) are on = ap (λ (l : List Entry). l ++ []) (day_next mark d none)
  where
    none : (t : ℕ) → t < 1440 → d.date / 60 + t ≡ suc mark → told_by (d.date / 60 + t) (latest d.words t) ≡ None
    none t low there =
        ap (λ (o : Option ℕ). told_by (d.date / 60 + t) o) (latest_last t d.words are.1.ordered (omega (arith, on.date, on.minute, there)))
        ∙ ap (λ (a : Bool). cond a None (Some (record { minute = d.date / 60 + t; slot = word_slot (last_word d.words); crew = word_crew (last_word d.words); act = word_act (last_word d.words) }))) on.absent
next_entries mark date (d ∷ e ∷ ds) are on =
    ap (λ (l : List Entry). l ++ entries_up_to (suc mark) (e ∷ ds)) (day_next mark d (λ t low there. absurd (omega (arith, low, there, are.1.midnight, later_day d.date (e ∷ ds) are.2 on))))
    ∙ ap (λ (l : List Entry). day_entries mark d ++ l) (next_entries mark d.date (e ∷ ds) are.2 on)
  where
    later_day : (date : ℕ) (ds : List Day) → AreDays date ds → OnNewest (ClosesAt (suc mark)) ds → date < date_of (suc mark)
    later_day date [] are on = absurd on
    later_day date (f ∷ []) are on = omega (arith, are.0, on.date)
    later_day date (f ∷ g ∷ ds) are on = let rest = later_day f.date (g ∷ ds) are.2 on in omega (arith, are.0, rest)

closing_shows : (size : ℕ) → 5544 ≤ size → (act : Activity) (mark latest : ℕ) (days : List Day) → AreDays 0 days → is_open mark days ≡ true → (all : List Entry)
    → AreDays 0 (with_change size (closing_word (suc mark) act latest) days) → Lists mark all (with_change size (closing_word (suc mark) act latest) days) → Lists (suc mark) all (with_change size (closing_word (suc mark) act latest) days)
closing_shows size long act mark latest days ordered is all whole shown =
    next_entries mark 0 (with_change size (closing_word (suc mark) act latest) days) whole
    (on_word (λ d. d.date ≡ date_of (suc mark)) (ClosesAt (suc mark)) (closing_word (suc mark) act latest) (fitting (size - 2) days)
    (λ d date. record {
      date = date;
      minute = ap word_minute (last_append d.words (closing_word (suc mark) act latest)) ∙ closing_minute (suc mark) act latest;
      absent = ap word_absent (last_append d.words (closing_word (suc mark) act latest)) ∙ closing_absent (suc mark) act latest;
    })
    (remain_some (λ d. d.date ≡ date_of (suc mark)) (size - 2) 0 days (fitting (size - 2) days) (omega (arith, long)) ordered (remain_fitting (size - 2) days) (open_date mark days is)))
    ∙ shown

-- ---- on a card

shown_at : (app : Application) (y : List ℕ) (m : ℕ) (all : List Entry) → end_mark app y ≡ m → Lists m all (book_of app y).days → ShowsEntries app all y
shown_at app y m all at lists =
    subst (λ (ds : List Day). Lists (end_mark app y) all ds) (book_days app y) (subst (λ (n : ℕ). Lists n all (book_of app y).days) (sym at) lists)

-- behind the new end mark no minute tells one
module _ (app : Application) (sound : IsApplication app) (x : List ℕ) (ordered : AreDays 0 (book_of app x).days) where
  pub keep_silent : (registration : Registration) (odometer more : ℕ) (e : Entry) (y : List ℕ) → IsBeforeGapOf e.minute (book_of app x) → IsCard app (IsKeepMoment app.activity registration odometer more e (book_of app x)) x y → end_mark app y ≡ e.minute → TellsNoLater app y
  keep_silent registration odometer more e y before card at = ⊎_elim
      (λ old. absurd (omega (arith, before.1, at, mark_at app (book_of app x) y old.0)))
      (λ new. ⊎_elim
      (λ unused. absurd (omega (arith, before.1, at, mark_told app y, before_use registration odometer e.minute (book_of app x).vehicles (book_of app y).vehicles unused)))
      (λ after. told (silent_end e.minute (book_of app y).days card.holds.ordered (low new.0)))
      new.1)
      card.told
    where
      gapped : List Day
      gapped = gap_closed app.activity (mark_of (book_of app x)) e.minute (book_of app x).days

      are : AreDays 0 gapped
      are = gap_are app.activity sound.string_least (book_of app x) ordered e.minute before

      low : (book_of app y).days ≡ travelled more (entered_days app.activity e gapped) → newest_word (book_of app y).days ≤ e.minute
      low is =
          let last = words_last app.activity sound.string_least (record { days = gapped; vehicles = (book_of app x).vehicles }) are e (gap_ready app.activity sound.string_least (book_of app x) ordered e.minute before e refl) in
          let same : newest_word (book_of app y).days ≡ newest_word (entered_days app.activity e gapped) = ap newest_word is ∙ word_alike (entered_days app.activity e gapped) (travelled more (entered_days app.activity e gapped)) (alike_km more (entered_days app.activity e gapped)) in
          omega (arith, same, last.0)

      told : (is_open e.minute (book_of app y).days ≡ false → IsSilentBehind e.minute (book_of app y).days) → TellsNoLater app y
      told silent =
          subst (λ (ds : List Day). is_open (end_mark app y) ds ≡ false → IsSilentBehind (end_mark app y) ds) (book_days app y)
          (subst (λ (n : ℕ). is_open n (book_of app y).days ≡ false → IsSilentBehind n (book_of app y).days) (sym at) silent)

module _ (app : Application) (sound : IsApplication app) (x : List ℕ) (ordered : AreDays 0 (book_of app x).days) (all : List Entry) (up : AllUpTo (end_mark app x) all) (shown : ShowsEntries app all x) where
  abbrev b : Book
  b = book_of app x

  listed : Lists (mark_of b) all b.days
  listed =
      subst (λ (ds : List Day). Lists (mark_of b) all ds) (sym (book_days app x))
      (subst (λ (n : ℕ). Lists n all (card_days app x)) (mark_told app x) shown)

  up_at : AllUpTo (mark_of b) all
  up_at = subst (λ (n : ℕ). AllUpTo n all) (mark_told app x) up

  pub keep_commits : (registration : Registration) (odometer more : ℕ) (e : Entry) (y : List ℕ) → IsBeforeGapOf e.minute (book_of app x) → BeginsBehind app e x → TellsNoLater app x
      → IsCard app (IsKeepMoment app.activity registration odometer more e (book_of app x)) x y → end_mark app y ≡ e.minute → ShowsEntries app (all ++ e ∷ []) y
  keep_commits registration odometer more e y before clear silent card at = ⊎_elim
      (λ old. absurd (omega (arith, before.1, at, mark_at app b y old.0)))
      (λ new. ⊎_elim
      (λ unused. absurd (omega (arith, before.1, at, mark_told app y, before_use registration odometer e.minute b.vehicles (book_of app y).vehicles unused)))
      (λ after. shown_at app y e.minute (all ++ e ∷ []) at
      (subst (λ (ds : List Day). Lists e.minute (all ++ e ∷ []) ds) (sym new.0)
      (commit_shows app.activity sound.string_least b ordered e before silent_at all up_at listed clear_at more (subst (λ (ds : List Day). AreDays 0 ds) new.0 card.holds.ordered))))
      new.1)
      card.told
    where
      silent_at : is_open (mark_of (book_of app x)) (book_of app x).days ≡ false → IsSilentBehind (mark_of (book_of app x)) (book_of app x).days
      silent_at =
          subst (λ (ds : List Day). is_open (mark_of (book_of app x)) ds ≡ false → IsSilentBehind (mark_of (book_of app x)) ds) (sym (book_days app x))
          (subst (λ (n : ℕ). is_open n (card_days app x) ≡ false → IsSilentBehind n (card_days app x)) (mark_told app x) silent)

      clear_at : is_newest (e.minute / 1440) (sizes (gap_closed app.activity (mark_of (book_of app x)) e.minute (book_of app x).days)) ≡ false → mark_of (book_of app x) / 1440 < e.minute / 1440
      clear_at other =
          subst (λ (n : ℕ). n / 1440 < e.minute / 1440) (mark_told app x)
          (clear (ap (λ (ds : List Day). is_newest (e.minute / 1440) (sizes ds)) (sym (book_days app x)) ∙ sym (newest_gapped app.activity sound.string_least (book_of app x) ordered e.minute (e.minute / 1440)) ∙ other))

  -- with the closing word, and the end mark at it
  closed_shows : (act : Activity) (y : List ℕ) → AreDays 0 (book_of app y).days → IsBook (closed app.activity act (book_of app x)) (book_of app y).days (book_of app y).vehicles → ShowsEntries app all y
  closed_shows act y are book =
      shown_at app y (mark_of (closed app.activity act b)) all (mark_at app (closed app.activity act b) y book.1)
      (subst (λ (ds : List Day). Lists (mark_of (closed app.activity act b)) all ds) (sym book.0) (by (is_open (mark_of b) b.days) refl (subst (λ (ds : List Day). AreDays 0 ds) book.0 are)))
    where
      marked : Book
      marked = record { days = closed_days app.activity (mark_of (book_of app x)) act (book_of app x).days; vehicles = last_used (60 * suc (mark_of (book_of app x))) (book_of app x).vehicles }

      v : ℕ
      v = closing_word (suc (mark_of (book_of app x))) act (latest_of (book_of app x).days)

      by : (o : Bool) → is_open (mark_of (book_of app x)) (book_of app x).days ≡ o → AreDays 0 (cond o marked (book_of app x)).days → Lists (mark_of (cond o marked (book_of app x))) all (cond o marked (book_of app x)).days
      by false is are = listed
      by true is are =
          let changed : closed_days app.activity (mark_of (book_of app x)) act (book_of app x).days ≡ with_change app.activity v (book_of app x).days = ap (λ (o : Bool). cond o (with_change app.activity v (book_of app x).days) (book_of app x).days) is in
          let there : Lists (mark_of (book_of app x)) all (closed_days app.activity (mark_of (book_of app x)) act (book_of app x).days) =
          closing_survives app.activity sound.string_least (book_of app x) ordered (Lists (mark_of (book_of app x)) all) (Lists (mark_of (book_of app x)) all) (lists_survive (mark_of (book_of app x)) all up_at) listed act (closed_days app.activity (mark_of (book_of app x)) act (book_of app x).days) (inr (is, inr refl)) in
          subst (λ (n : ℕ). Lists n all marked.days) (sym (mark_moves (book_of app x) ordered is))
          (subst (λ (ds : List Day). Lists (suc (mark_of (book_of app x))) all ds) (sym changed)
          (closing_shows app.activity sound.string_least act (mark_of (book_of app x)) (latest_of (book_of app x).days) (book_of app x).days ordered is all
          (subst (λ (ds : List Day). AreDays 0 ds) changed are) (subst (λ (ds : List Day). Lists (mark_of (book_of app x)) all ds) changed there)))

  pub close_shows : (act : Activity) (y : List ℕ) → IsCard app (IsCloseMoment app.activity act (book_of app x)) x y → ShowsEntries app all y
  close_shows act y card = ⊎_elim
      (λ old. shown_at app y (mark_of b) all (mark_at app b y old.0)
      (closing_survives app.activity sound.string_least b ordered (Lists (mark_of b) all) (Lists (mark_of b) all) (lists_survive (mark_of b) all up_at) listed act (book_of app y).days old.1))
      (λ book. closed_shows act y card.holds.ordered book) card.told

  pub end_shows : (act : Activity) (k y : List ℕ) → image_size_of app ≤ length x → IsCard app (IsBook (closed app.activity act (book_of app x))) x k → y ≡ ended app k → ShowsEntries app all y
  end_shows act k y fits card is =
      let room : image_size_of app ≤ length k = omega (arith, fits, card.outside.same_length) in
      subst (λ (l : List ℕ). ShowsEntries app all l) (sym is)
      (subst (λ (ds : List Day). Lists (end_mark app (ended app k)) all ds) (sym (ended_days app sound k room card.points))
      (subst (λ (n : ℕ). Lists n all (card_days app k)) (sym (ended_mark app sound k room card.points)) (closed_shows act k card.holds.ordered card.told)))
