-- What a repair to the end mark leaves in the middle of a session's first keep, with entries by hand before its entry.
use Rattle.std.proofs.Common.{◌≡◌, inl, inr, ⊎_elim, ℕ, ◌+◌, ◌-◌, ◌*◌, ◌/◌, ◌%◌, ◌<◌, ◌≤◌, Bool, true, false, cond, List, [], ◌∷◌, ◌++◌, length, refl, sym, ◌∙◌, ap, subst, arith, length-append}
use Rattle.std.specs.Prelude.{◌⊎◌}
use Rattle.activity_codec.specs.declared.entries.Entry.{Entry}
use Rattle.activity_codec.specs.Words.{word_minute}
use Rattle.card_session.specs.card_model.Days.{Day, AreDays, total, len_of}
use Rattle.card_session.specs.card_model.Changes.{Remain, OnNewest, date_of, with_newest, with_word, fitting, new_day, trimmed}
use Rattle.card_session.proofs.card_model.Retention.{remain_all, remain_then, remain_some, remain_fitting}
use Rattle.card_session.proofs.card_model.Trims.{Behind, trimmed_word, trimmed_day}
use Rattle.card_session.specs.card_retention.Expected.{Counted, is_newest}
use Rattle.card_session.specs.card_retention.Shown.{Bound, Rests, Lives, sizes}
use Rattle.card_session.proofs.card_retention.Entering.{date_newest}
use Rattle.card_session.proofs.card_retention.Stops.{stopped, base_left, base_days, are_left}
use Rattle.card_session.specs.Books.{entry_word, day_words, with_change, tells_state, entered_days, with_new_day}
use Rattle.card_session.specs.Moments.{IsBeforeWords}
use Rattle.card_session.specs.ByHand.{words_from, with_day_from, with_word_at, word_len}
use Rattle.card_session.proofs.Following.{entry_minute}
use Rattle.card_session.proofs.Preparing.{on_as}
use Rattle.card_by_hand.specs.Over.{IsBehind, Above, Above.Same, Above.Word, Above.Begun, IsOver}
use Rattle.card_by_hand.proofs.Staying.{few_words}

-- ---- drops

pub remain_weaker : (room less : ℕ) (days kept : List Day) → less ≤ room → Remain room days kept → Remain less days kept
remain_weaker room less [] kept le left = left
remain_weaker room less (d ∷ ds) kept le left = ⊎_elim (λ same. inl same) (λ gone. inr (omega (arith, gone.0, le), remain_weaker room less ds kept le gone.1)) left

total_word : (w : ℕ) (d : Day) (ds : List Day) → total (with_newest (with_word w) (d ∷ ds)) ≡ total (d ∷ ds) + 2
total_word w d [] = omega (arith, length-append d.words (w ∷ []))
total_word w d (e ∷ ds) = omega (arith, total_word w e ds)

total_append : (ds : List Day) (d : Day) → total (ds ++ d ∷ []) ≡ total ds + len_of d
total_append [] d = omega arith
total_append (e ∷ ds) d = omega (arith, total_append ds d)

record Unworded (room w : ℕ) (ds kept : List Day) : Type 0 where
  base : List Day
  is : kept ≡ with_newest (with_word w) base
  left : Remain (room - 2) ds base

unworded : (room w : ℕ) (ds kept : List Day) → 2 ≤ room → Remain room (with_newest (with_word w) ds) kept → Unworded room w ds kept
unworded room w [] kept le left = record { base = []; is = left; left = refl }
unworded room w (d ∷ []) kept le left = ⊎_elim
    (λ is. record { base = d ∷ []; is = is; left = inl refl })
    (λ gone. record { base = []; is = gone.1; left = inr (omega (arith, gone.0, le, total_word w d []), refl) }) left
unworded room w (d ∷ e ∷ ds) kept le left = ⊎_elim
    (λ is. record { base = d ∷ e ∷ ds; is = is; left = inl refl })
    (λ gone. let u = unworded room w (e ∷ ds) kept le gone.1 in record { base = u.base; is = u.is; left = inr (omega (arith, gone.0, le, total_word w e ds), u.left) }) left

pub record Undayed (room : ℕ) (d : Day) (ds kept : List Day) : Type 0 where
  pub base : List Day
  pub is : kept ≡ base ++ d ∷ []
  pub left : Remain (room - len_of d) ds base

pub undayed : (room : ℕ) (d : Day) (ds kept : List Day) → len_of d ≤ room → Remain room (ds ++ d ∷ []) kept → Undayed room d ds kept
undayed room d [] kept le left = ⊎_elim
    (λ same. record { base = []; is = same; left = refl })
    (λ gone. absurd (omega (arith, gone.0, le))) left
undayed room d (e ∷ ds) kept le left = ⊎_elim
    (λ same. record { base = e ∷ ds; is = same; left = inl refl })
    (λ gone. let u = undayed room d ds kept le gone.1 in record { base = u.base; is = u.is; left = inr (omega (arith, gone.0, le, total_append ds d), u.left) }) left

-- drops of days above others leave days above what drops leave of those
record Dropped (mark room bytes : ℕ) (base kept : List Day) : Type 0 where
  less : List Day
  left : Remain (room - bytes) base less
  above : Above mark less bytes kept

dropped : (mark : ℕ) (base : List Day) (room bytes : ℕ) (over kept : List Day) → 2894 + bytes ≤ room → Above mark base bytes over → Remain room over kept → Dropped mark room bytes base kept
dropped mark base room bytes over kept wide Same left = record { less = kept; left = remain_weaker room (room - 0) base kept (omega arith) left; above = Same }
dropped mark base room bytes over kept wide (Begun d later) left =
    let u = undayed room d base kept (omega (arith, wide)) left in
    record { less = u.base; left = u.left; above = subst (λ (l : List Day). Above mark u.base (len_of d) l) (sym u.is) (Begun d later) }
dropped mark base room bytes over kept wide (Word less w under above are on) left =
    let u = unworded room w under kept (omega (arith, wide)) left in
    let rest = dropped mark base (room - 2) less under u.base (omega (arith, wide)) above u.left in
    record {
      less = rest.less;
      left = remain_weaker (room - 2 - less) (room - (less + 2)) base rest.less (omega arith) rest.left;
      above = subst (λ (l : List Day). Above mark rest.less (less + 2) l) (sym u.is) (Word less w u.base rest.above (are_left (room - 2) under u.base u.left are) (remain_some (IsBehind mark w) (room - 2) 0 under u.base (omega (arith, wide)) are u.left on));
    }

-- a trim to the mark leaves the same of both
trimmed_above : (mark : ℕ) (base : List Day) (bytes : ℕ) (over : List Day) → Above mark base bytes over → trimmed mark over ≡ trimmed mark base
trimmed_above mark base bytes over Same = refl
trimmed_above mark base bytes over (Word less w under above are on) = trimmed_word mark w under (on_as (IsBehind mark w) (Behind mark w) under (λ d is. record { day = is.day; minute = is.minute }) on) ∙ trimmed_above mark base less under above
trimmed_above mark base bytes over (Begun d later) = trimmed_day mark base d later

module _ (size mark : ℕ) (long : 5544 ≤ size) (days : List Day) where
  -- DROPS for so many bytes more
  pub over_drops : (bytes more : ℕ) (over kept : List Day) → bytes ≤ 32 → more ≤ 16 → IsOver size mark bytes days over → Remain (size - more) over kept → IsOver size mark (bytes + more) days kept
  over_drops bytes more over kept few little o left =
      let d = dropped mark o.base (size - more) o.more over kept (omega (arith, o.few, few, little, long)) o.above left in
      record {
        base = d.less;
        left = remain_then (size - (bytes + more)) days o.base d.less (remain_weaker (size - bytes) (size - (bytes + more)) days o.base (omega arith) o.left) (remain_weaker (size - more - o.more) (size - (bytes + more)) o.base d.less (omega (arith, o.few)) d.left);
        more = o.more;
        few = omega (arith, o.few);
        above = d.above;
      }

  -- A WORD MORE behind the mark, on the newest day
  pub over_word : (bytes w : ℕ) (over : List Day) → bytes ≤ 32 → AreDays 0 over → OnNewest (IsBehind mark w) over → IsOver size mark bytes days over → IsOver size mark (bytes + 2) days (with_change size w over)
  over_word bytes w over few are on o =
      let d = dropped mark o.base (size - 2) o.more over (fitting (size - 2) over) (omega (arith, o.few, few, long)) o.above (remain_fitting (size - 2) over) in
      record {
        base = d.less;
        left = remain_then (size - (bytes + 2)) days o.base d.less (remain_weaker (size - bytes) (size - (bytes + 2)) days o.base (omega arith) o.left) (remain_weaker (size - 2 - o.more) (size - (bytes + 2)) o.base d.less (omega (arith, o.few)) d.left);
        more = o.more + 2;
        few = omega (arith, o.few);
        above = Word o.more w (fitting (size - 2) over) d.above (are_left (size - 2) over (fitting (size - 2) over) (remain_fitting (size - 2) over) are) (remain_some (IsBehind mark w) (size - 2) 0 over (fitting (size - 2) over) (omega (arith, long)) are (remain_fitting (size - 2) over) on);
      }

  -- nothing is written yet
  pub over_none : IsOver size mark 0 days days
  over_none = record { base = days; left = remain_all (size - 0) days; more = 0; few = omega arith; above = Same }

  -- A DAY is begun behind the mark's
  pub over_day : (words : List ℕ) (date : ℕ) → length words ≤ 2 → date_of mark < date → IsOver size mark 16 days (fitting (size - (12 + 2 * length words)) days ++ new_day days date words ∷ [])
  over_day words date few later = record {
    base = fitting (size - (12 + 2 * length words)) days;
    left = remain_weaker (size - (12 + 2 * length words)) (size - 16) days (fitting (size - (12 + 2 * length words)) days) (omega (arith, few)) (remain_fitting (size - (12 + 2 * length words)) days);
    more = len_of (new_day days date words);
    few = omega (arith, few);
    above = Begun (new_day days date words) later;
  }

  -- ---- an entry by hand

  module _ (minute w : ℕ) (at : word_minute w ≡ minute % 1440) (late : mark < minute) where
    behind : (ds : List Day) → OnNewest (λ d. d.date ≡ minute / 1440 * 86400) ds → OnNewest (IsBehind mark w) ds
    behind ds dated = on_as (λ d. d.date ≡ minute / 1440 * 86400) (IsBehind mark w) ds (λ d date. record { day = omega (arith, date, late); minute = λ same. omega (arith, date, same, late, at) }) dated

    -- the first of a session
    pub over_first : AreDays 0 days → (is_newest (minute / 1440) (sizes days) ≡ false → mark / 1440 < minute / 1440) → (kept : List Day)
        → (Remain (size - word_len minute w days) days kept) ⊎ (kept ≡ with_word_at size minute w days) → IsOver size mark 16 days kept
    over_first are clear kept moment = by (is_newest (minute / 1440) (sizes days)) refl moment
      where
        wider : IsOver size mark 2 days kept → IsOver size mark 16 days kept
        wider o = record { base = o.base; left = remain_weaker (size - 2) (size - 16) days o.base (omega arith) o.left; more = o.more; few = omega (arith, o.few); above = o.above }

        by : (n : Bool) → is_newest (minute / 1440) (sizes days) ≡ n → (Remain (size - cond n 2 (12 + 2 * length (words_from minute w))) days kept) ⊎ (kept ≡ cond n (with_change size w days) (with_day_from size minute w days)) → IsOver size mark 16 days kept
        by true is moment = wider (⊎_elim
            (λ gone. over_drops 0 2 days kept (omega arith) (omega arith) over_none gone)
            (λ done. subst (λ (l : List Day). IsOver size mark 2 days l) (sym done) (over_word 0 w days (omega arith) are (behind days (date_newest (minute / 1440) 0 days are is)) over_none)) moment)
        by false is moment = ⊎_elim
            (λ gone. over_drops 0 16 days kept (omega arith) (omega arith) over_none (remain_weaker (size - (12 + 2 * length (words_from minute w))) (size - 16) days kept (omega (arith, few_words minute w)) gone))
            (λ done. subst (λ (l : List Day). IsOver size mark 16 days l) (sym done) (over_day (words_from minute w) (date_of minute) (few_words minute w) (omega (arith, clear is)))) moment

    -- each further one, on the day of the one before
    pub over_next : (bytes : ℕ) (over : List Day) → bytes ≤ 30 → AreDays 0 over → is_newest (minute / 1440) (sizes over) ≡ true → IsOver size mark bytes days over → (kept : List Day)
        → (Remain (size - word_len minute w over) over kept) ⊎ (kept ≡ with_word_at size minute w over) → IsOver size mark (bytes + 2) days kept
    over_next bytes over few are newest o kept moment = ⊎_elim
        (λ gone. over_drops bytes 2 over kept (omega (arith, few)) (omega arith) o (subst (λ (n : ℕ). Remain (size - n) over kept) (ap (λ (n : Bool). cond n 2 (12 + 2 * length (words_from minute w))) newest) gone))
        (λ done. subst (λ (l : List Day). IsOver size mark (bytes + 2) days l) (sym (done ∙ ap (λ (n : Bool). cond n (with_change size w over) (with_day_from size minute w over)) newest)) (over_word bytes w over (omega (arith, few)) are (behind over (date_newest (minute / 1440) 0 over are newest)) o))
        moment

  -- ---- the entry of the keep, before its end mark moves

  module _ (bytes : ℕ) (over : List Day) (few : bytes ≤ 30) (are : AreDays 0 over) (o : IsOver size mark bytes days over) (e : Entry) (late : mark < e.minute) (newest : is_newest (e.minute / 1440) (sizes over) ≡ true) where
    entry_behind : OnNewest (IsBehind mark (entry_word e)) over
    entry_behind = behind e.minute (entry_word e) (entry_minute e) late over (date_newest (e.minute / 1440) 0 over are newest)

    pub over_words : (kept : List Day) → IsBeforeWords size e over kept → IsOver size mark (bytes + 2) days kept
    over_words kept moment = ⊎_elim
        (λ still. subst (λ (l : List Day). IsOver size mark (bytes + 2) days l) (sym still) (over_drops bytes 2 over over (omega (arith, few)) (omega arith) o (remain_all (size - 2) over)))
        (λ gone. over_drops bytes 2 over kept (omega (arith, few)) (omega arith) o (subst (λ (n : ℕ). Remain (size - n) over kept) (ap (λ (n : Bool). cond n 2 (12 + 2 * length (day_words e))) newest) gone.1))
        moment

    pub over_entered : IsOver size mark (bytes + 2) days (entered_days size e over)
    over_entered = subst (λ (n : Bool). IsOver size mark (bytes + 2) days (cond n (cond (tells_state e over) over (with_change size (entry_word e) over)) (with_new_day size e over))) (sym newest) (by (tells_state e over))
      where
        by : (t : Bool) → IsOver size mark (bytes + 2) days (cond t over (with_change size (entry_word e) over))
        by true = over_drops bytes 2 over over (omega (arith, few)) (omega arith) o (remain_all (size - 2) over)
        by false = over_word bytes (entry_word e) over (omega (arith, few)) are entry_behind o

  -- ---- what a repair leaves of them

  module _ (slack : Bound) (covered from : ℕ) (c : Counted) (l : Lives size slack covered from mark c days) (next : ℕ) (later : from ≤ next) (least : 32 ≤ slack.bytes) where
    pub over_rests : (bytes : ℕ) (over : List Day) → bytes ≤ 32 → IsOver size mark bytes days over → Rests size slack covered next mark c (trimmed mark over)
    over_rests bytes over few o =
        let left : Remain (size - 32) days o.base = remain_weaker (size - bytes) (size - 32) days o.base (omega (arith, few)) o.left in
        let sixteen : 16 ≤ slack.bytes = omega (arith, least) in
        stopped size slack covered from mark c days l next later long sixteen o.base over (trimmed_above mark o.base o.more over o.above)
        (base_left size slack covered from mark c days l next later long sixteen (size - 32) days o.base (omega (arith, long)) (omega (arith, long, least)) left (base_days size slack covered from mark c days l next later long sixteen))
