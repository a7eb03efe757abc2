-- The days of an image as they are written, kept by each kind of step.
use Rattle.std.proofs.Common.{◌≡◌, ◌⊎◌, inl, inr, ⊎_elim, ℕ, ◌-◌, ◌/◌, ◌<◌, ◌≤◌, Bool, true, false, cond, List, [], ◌∷◌, ◌++◌, length, take, drop, refl, sym, ◌∙◌, ap, subst, arith, append_assoc, length-drop, take-append-drop}
use Rattle.std.specs.Prelude.{◌==◌}
use Rattle.std.proofs.lemmas.Bool.{cases_lt}
use Rattle.std.proofs.lemmas.List.{map-append}
use Rattle.unit_minutes.specs.gated_ring.Ring.{newest_of}
use Rattle.unit_minutes.specs.unit_model.declared.layout.TheConstants.{DAY_SLOTS}
use Rattle.unit_minutes.specs.unit_model.Days.{StoredDay, UnitMinute, day_of}
use Rattle.unit_minutes.specs.unit_model.Image.{last_kept}
use Rattle.unit_minutes.specs.Kept.{written_at}
use Rattle.unit_minutes.specs.DaysWith.{day_with, closed_day, begun_day, days_with, written_days}
use Rattle.unit_minutes.proofs.DaysWith.{newest_all}
use Rattle.run_unit_course.specs.history_model.Minutes.{HistoryMinute}
use Rattle.safety_model.specs.device_rule.Filling.{seen_by_unit}
use Rattle.unit_rule.specs.Written.{MinuteWritten, days_behind, last_behind, AreNewest, ShowsWritten}

-- ONE MINUTE MORE
days-push : (kept : ℕ) (ws : List MinuteWritten) (w : MinuteWritten) (days : List StoredDay) → days_behind kept (ws ++ w ∷ []) days ≡ days_with (last_behind kept ws) (written_at w.odometer (seen_by_unit w.minute)) (days_behind kept ws days)
days-push kept [] w days = refl
days-push kept (v ∷ ws) w days = days-push v.minute.minute ws w (days_with kept (written_at v.odometer (seen_by_unit v.minute)) days)

last-push : (kept : ℕ) (ws : List MinuteWritten) (w : MinuteWritten) → last_behind kept (ws ++ w ∷ []) ≡ w.minute.minute
last-push kept [] w = refl
last-push kept (v ∷ ws) w = last-push v.minute.minute ws w

module _ (k odometer : ℕ) (u : UnitMinute) where
  -- it goes to the last day; earlier ones that are gone stay gone
  with-front : (gone : List StoredDay) (d : StoredDay) (days : List StoredDay) → days_with k (written_at odometer u) (gone ++ d ∷ days) ≡ gone ++ days_with k (written_at odometer u) (d ∷ days)
  with-front [] d days = refl
  with-front (g ∷ []) d days = refl
  with-front (g ∷ h ∷ gone) d days = ap (λ (l : List StoredDay). g ∷ l) (with-front (h ∷ gone) d days)

  with-gone : (gone days : List StoredDay) → (gone ≡ []) ⊎ (DAY_SLOTS - 1 ≤ length days) → days_with k (written_at odometer u) (gone ++ days) ≡ gone ++ days_with k (written_at odometer u) days
  with-gone gone days (inl none) = subst (λ (l : List StoredDay). days_with k (written_at odometer u) (l ++ days) ≡ l ++ days_with k (written_at odometer u) days) (sym none) refl
  with-gone gone [] (inr few) = absurd (omega (arith, few))
  with-gone gone (d ∷ days) (inr few) = with-front gone d days

  -- no day is lost by it
  with-long : (days : List StoredDay) → length days ≤ length (days_with k (written_at odometer u) days)
  with-long [] = omega arith
  with-long (d ∷ []) = by (day_of d == u.minute / 1440)
    where
      by : (b : Bool) → length (d ∷ []) ≤ length (cond b (day_with k (written_at odometer u) d ∷ []) (closed_day k d ∷ begun_day (written_at odometer u) ∷ []))
      by true = omega arith
      by false = omega arith
  with-long (d ∷ e ∷ days) = let le = with-long (e ∷ days) in omega (arith, le)

-- of those that are left the oldest may go
newest-of : (n : ℕ) → DAY_SLOTS - 1 ≤ n → (every days now : List StoredDay) → now ≡ newest_of n days → AreNewest every days → AreNewest every now
newest-of n enough every days now is left = ⊎_elim more all (cases_lt n (length days))
  where
    all : length days ≤ n → AreNewest every now
    all le =
        let same : now ≡ days = is ∙ newest_all n days le in
        record {
          gone = left.gone;
          are = left.are ∙ ap (λ (l : List StoredDay). left.gone ++ l) (sym same);
          few = ⊎_elim inl (λ few. inr (subst (λ (l : List StoredDay). DAY_SLOTS - 1 ≤ length l) (sym same) few)) left.few;
        }

    more : n < length days → AreNewest every now
    more lt =
        let k : ℕ = length days - n in
        let long : length now ≡ length days - k = ap length is ∙ length-drop k days in
        record {
          gone = left.gone ++ take k days;
          are = left.are ∙ ap (λ (l : List StoredDay). left.gone ++ l) (sym (take-append-drop k days)) ∙ sym (append_assoc left.gone (take k days) (drop k days)) ∙ ap (λ (l : List StoredDay). (left.gone ++ take k days) ++ l) (sym is);
          few = inr (omega (arith, long, lt, enough));
        }

-- THE STEPS: an image that was not written so far
pub written-first : (x c : List ℕ) → c ≡ x → ShowsWritten x [] c
written-first x c is = record { written = []; are = refl; last = ap last_kept (sym is); days = record { gone = []; are = ap written_days (sym is); few = inl refl } }

module _ (start : List ℕ) (now past : List HistoryMinute) (x c : List ℕ) where
  -- nothing was written
  pub written-still : now ≡ past → last_kept c ≡ last_kept x → written_days c ≡ written_days x → ShowsWritten start past x → ShowsWritten start now c
  written-still is mark same shown = record {
    written = shown.written;
    are = shown.are ∙ sym is;
    last = shown.last ∙ sym mark;
    days = subst (AreNewest (days_behind (last_kept start) shown.written (written_days start))) (sym same) shown.days;
  }

  -- the oldest day goes before a further one
  pub written-fewer : (n : ℕ) → DAY_SLOTS - 1 ≤ n → now ≡ past → last_kept c ≡ last_kept x → written_days c ≡ newest_of n (written_days x) → ShowsWritten start past x → ShowsWritten start now c
  written-fewer n enough is mark less shown = record {
    written = shown.written;
    are = shown.are ∙ sym is;
    last = shown.last ∙ sym mark;
    days = newest-of n enough (days_behind (last_kept start) shown.written (written_days start)) (written_days x) (written_days c) less shown.days;
  }

  -- a minute is written
  pub written-more : (i : HistoryMinute) (odometer : ℕ) → now ≡ past ++ i ∷ [] → last_kept c ≡ i.minute → written_days c ≡ newest_of DAY_SLOTS (days_with (last_kept x) (written_at odometer (seen_by_unit i)) (written_days x)) →
      ShowsWritten start past x → ShowsWritten start now c
  written-more i odometer is mark more shown =
      let w : MinuteWritten = record { minute = i; odometer = odometer } in
      let old : List StoredDay = days_behind (last_kept start) shown.written (written_days start) in
      let of_old : AreNewest old (written_days x) = shown.days in
      let each : days_behind (last_kept start) (shown.written ++ w ∷ []) (written_days start) ≡ of_old.gone ++ days_with (last_kept x) (written_at odometer (seen_by_unit i)) (written_days x) = days-push (last_kept start) shown.written w (written_days start)
      ∙ ap (λ (k : ℕ). days_with k (written_at odometer (seen_by_unit i)) old) shown.last
      ∙ ap (λ (l : List StoredDay). days_with (last_kept x) (written_at odometer (seen_by_unit i)) l) of_old.are
      ∙ with-gone (last_kept x) odometer (seen_by_unit i) of_old.gone (written_days x) of_old.few in
      record {
        written = shown.written ++ w ∷ [];
        are = map-append (λ (v : MinuteWritten). v.minute) shown.written (w ∷ []) ∙ ap (λ (l : List HistoryMinute). l ++ i ∷ []) shown.are ∙ sym is;
        last = last-push (last_kept start) shown.written w ∙ sym mark;
        days = newest-of DAY_SLOTS (omega arith) (days_behind (last_kept start) (shown.written ++ w ∷ []) (written_days start)) (days_with (last_kept x) (written_at odometer (seen_by_unit i)) (written_days x)) (written_days c) more
            (record { gone = of_old.gone; are = each; few = ⊎_elim inl (λ few. inr (let long = with-long (last_kept x) odometer (seen_by_unit i) (written_days x) in omega (arith, few, long))) of_old.few });
      }
