-- What a run leaves of the unit, in short: from what is promised of it, and what is said of its last-kept minute.
use Rattle.std.proofs.Common.{◌≡◌, ◌⊎◌, inl, inr, ⊎_elim, ℕ, ◌+◌, ◌/◌, ◌<◌, ◌≤◌, true, List, [], ◌∷◌, Contains, length, refl, subst, ◌∙◌, arith}
use Rattle.tach_media.specs.Medium.{State, last_count}
use Rattle.safety_model.specs.device_rule.run_model.declared.Device.TheVariants.{Unit as Recorder}
use Rattle.safety_model.specs.device_rule.minute_model.declared.Minute.{Minute}
use Rattle.safety_model.specs.device_rule.unit_model.Image.{recorded, last_kept}
use Rattle.safety_model.specs.device_rule.unit_model.Decoding.{Decodes}
use Rattle.safety_model.specs.device_rule.log_model.declared.lines.Mark.{Mark}
use Rattle.safety_model.specs.device_rule.log_model.declared.lines.Break.{Break}
use Rattle.safety_model.specs.device_rule.log_model.Course.{ToldSecond, went}
use Rattle.safety_model.specs.device_rule.log_model.Causes.{cuts}
use Rattle.safety_model.specs.device_rule.log_model.Spans.{spans_of, AreInOrder}
use Rattle.safety_model.specs.device_rule.history_model.Minutes.{HistoryMinute}
use Rattle.safety_model.specs.device_rule.history_model.Book.{IsMark}
use Rattle.safety_model.specs.device_rule.history_model.Completeness.{IsMarked}
use Rattle.safety_model.specs.device_rule.history_model.Growth.{Rises}
use Rattle.safety_model.specs.device_rule.history_model.History.{decided_of, unit_history, with_lost}
use Rattle.safety_model.specs.device_rule.history_model.Presence.{Start}
use Rattle.safety_model.specs.device_rule.log_model.Log.{RunLog}
use Rattle.safety_model.specs.device_rule.trace_model.Trace.{TraceSecond}
use Rattle.safety_model.specs.device_rule.minute_model.declared.Rule.{Rule}
use Rattle.safety_model.specs.device_rule.Filling.{seen_by_unit}
use Rattle.history_model.proofs.Told.{rises}
use Rattle.safety_model.specs.Unit.{marks_of, UnitShows, UnitMarkHolds, UnitSafe}
use Rattle.safety_model.proofs.Whole.{mark-of, no-failure}
use Rattle.short_promise.specs.InShort.{said, IsOverwritten, HasAll, Stands, MissesNone, KeepsAlone}
use Rattle.days_told.proofs.Lost.{IsParted, lost-parted}
use Rattle.short_promise.proofs.Images.{has-all, shows-says, due-among, due-history, passed-rising}

-- a run of these seconds, on a unit that began with this image
module _ (image : List ℕ) (rule : Rule) (start : Start) (log : RunLog) (ss : List TraceSecond) (from : ℕ) (decodes : Decodes image) (later : last_kept image < from / 60) (order : AreInOrder from ss) where
  abbrev until : ℕ
  until = (from + length ss) / 60

  abbrev past : List HistoryMinute
  past = unit_history rule start log (went log ss).told

  abbrev lost : List (List HistoryMinute)
  lost = with_lost rule start log (went log ss).told

  rising : Rises (from / 60) past until
  rising = rises from rule start log ss order

  parted : (l : List HistoryMinute) → Contains lost l → IsParted (from / 60) until past l
  parted = lost-parted rule start log from ss order

  -- UNIT
  pub unit-has : (x : List ℕ) (s : UnitShows (recorded image) past lost x) → Decodes x → IsMark (last_kept image) s.some (last_kept x) → HasAll image past lost x
  unit-has x s ok mark = has-all image decodes (from / 60) until past lost later rising parted s.next s.some x ok s.passed s.days mark

  -- ACKNOWLEDGED
  pub unit-stands : (since : ℕ) (unit : State) (m : Mark) → UnitMarkHolds (recorded image) past lost unit m → since ≤ m.clock → ((x : List ℕ) → unit.left_since m.clock x → m.minute ≤ last_kept x) → Stands past since unit m
  unit-stands since unit m h began held = record {
    i = h.i;
    of = h.stands;
    minute = h.minute;
    began = began;
    clock = h.clock;
    prompt = h.prompt;
    far = held;
    says = λ x left. subst (λ (k : ℕ). (said x k ≡ seen_by_unit h.i) ⊎ IsOverwritten x k) h.minute (shown x (h.shown x left));
  }
    where
      shown : (x : List ℕ) → (s : UnitShows (recorded image) past lost x) × Contains s.some h.i → (said x h.i.minute ≡ seen_by_unit h.i) ⊎ IsOverwritten x h.i.minute
      shown x k = let s = k.0 in
          let rise = passed-rising image decodes (from / 60) until past lost later rising parted s.some s.passed in
          ⊎_elim
          (λ same. inl (same ∙ due-among image decodes s.some h.i rise k.1))
          (λ older. inr older)
          (shows-says image decodes s.next s.some x h.i.minute rise s.days)

  -- what is due of a minute of the history that an image of the unit has come to
  pub has-due : (x : List ℕ) (a : HasAll image past lost x) (i : HistoryMinute) → Contains past i → i.minute ≤ last_kept x → (said x i.minute ≡ seen_by_unit i) ⊎ IsOverwritten x i.minute
  has-due x a i at le = ⊎_elim
      (λ same. inl (same ∙ due-history image decodes (from / 60) until past lost later rising parted a.history a.is (last_kept x) a.last i at le))
      (λ older. inr older)
      (a.says i.minute le)

  -- A UNIT ALONE
  pub keeps-alone : (marks : List Mark) (began now : State) (safe : UnitSafe (recorded image) past lost marks began.clock now) →
      ((x : List ℕ) (left : now.left_since began.clock x) → IsMark (last_kept image) (safe.minutes x left).some (last_kept x)) →
      ((m : Mark) → Contains (marks_of Recorder marks) m → began.clock ≤ m.clock) →
      ((m : Mark) → Contains (marks_of Recorder marks) m → (x : List ℕ) → now.left_since m.clock x → m.minute ≤ last_kept x) →
      MissesNone rule log (went log ss).told marks began now →
      KeepsAlone image past lost rule log (went log ss).told marks began now
  keeps-alone marks began now safe last since held complete = record {
    unit = λ x left. unit-has x (safe.minutes x left) (safe.decodes x left) (last x left);
    acknowledged = λ m at. unit-stands began.clock now m (safe.marked m at) (since m at) (held m at);
    complete = complete;
  }

-- WHERE THE UNIT DID NOT BREAK DOWN each decided minute is acknowledged, and one of the history
pub where-nothing-failed : (start : List ℕ) (past : List HistoryMinute) (lost : List (List HistoryMinute)) (rule : Rule) (log : RunLog) (told : List ToldSecond) (marks : List Mark) (began now : State) → KeepsAlone start past lost rule log told marks began now →
    now.breakdowns < last_count → now.breakdowns ≡ began.breakdowns → (span : List ToldSecond) (d : Minute) → Contains (spans_of told) span → Contains (decided_of rule span) d →
    IsMarked marks Recorder d.minute × ((i : HistoryMinute) × Contains past i × (i.minute ≡ d.minute))
where-nothing-failed start past lost rule log told marks began now keeps below same span d among within =
    let none : cuts true log ≡ [] = no-cuts (cuts true log) (let counted = keeps.complete.counted below in omega (arith, counted, same)) in
    let marked : IsMarked marks Recorder d.minute = ⊎_elim (λ is. is) (λ failed. absurd (no-failure log none _ failed)) (keeps.complete.acknowledged span d among within) in
    let m = mark-of Recorder marks d.minute marked in
    let s = keeps.acknowledged m.0 m.1 in
    (marked, (s.i, s.of, s.minute ∙ m.2))
  where
    no-cuts : (bs : List Break) → length bs ≡ 0 → bs ≡ []
    no-cuts [] is = refl
    no-cuts (b ∷ bs) is = absurd (omega (arith, is))
