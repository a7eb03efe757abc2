-- The unit and its marks, kept by each kind of step.
use Rattle.std.proofs.Common.{◌≡◌, inl, ⊎_elim, ℕ, suc, ◌+◌, ◌-◌, ◌<◌, ◌≤◌, cond, true, false, Option, Some, None, is_some, List, [], ◌∷◌, ◌++◌, All, Contains, refl, ap, sym, subst, ◌∙◌, arith, length, drop}
use Rattle.std.specs.Prelude.{option_to_list}
use Rattle.std.proofs.lemmas.List.{append-nil}
use Rattle.std.proofs.lemmas.List.Elements.{filter-append, All-weaker, All-append, All-nil, All-tail, All-head, All-contains, Contains-push, Contains-append_left}
use Rattle.run_unit_course.specs.run_model.declared.Device.{Device}
use Rattle.run_unit_course.specs.run_model.declared.Device.TheVariants.{Unit as Recorder}
use Rattle.tach_media.specs.Medium.{State, IsCoherent, IsSettled, LeavesOnly, Unchanged}
use Rattle.unit_minutes.specs.unit_model.Days.{ShownDay, newest_days}
use Rattle.unit_minutes.specs.unit_model.Decoding.{Decodes}
use Rattle.unit_minutes.proofs.unit_model.WholeDays.{decoded_of}
use Rattle.unit_minutes.proofs.Besides.{few_days}
use Rattle.unit_minutes.specs.unit_model.Image.{last_kept, recorded}
use Rattle.unit_minutes.specs.Image as journal
use Rattle.run_unit_course.specs.log_model.declared.lines.Mark.{Mark}
use Rattle.run_unit_course.specs.history_model.Minutes.{HistoryMinute}
use Rattle.run_unit_course.specs.history_model.Book.{Book, all, not_begun, kept, broken, found}
use Rattle.run_unit_course.proofs.history_model.Filters.{all-one}
use Rattle.run_unit_course.proofs.history_model.Books.{contains-up_to}
use Rattle.safety_model.specs.device_rule.Views.{UnitView, unit_view}
use Rattle.safety_model.specs.device_rule.Device.{Seen, LeavesViews, Nothing}
use Rattle.safety_model.specs.device_rule.Rules.{UnitHolds, UnitRule}
use Rattle.safety_model.specs.device_rule.Filling.{FillsDays, KeepsMinute, GivesUpDay, seen_by_unit}
use Rattle.safety_model.specs.device_rule.Steps.{IsKeeping, IsKept}
use Rattle.safety_model.proofs.device_rule.Simple.{days-go-on}
use Rattle.safety_model.proofs.device_rule.UnitLaws.{unit-aside, keep-unit, keep-unit_dark, last-earlier, found-unit}
use Rattle.safety_model.proofs.device_rule.Opening.{opened-unit}
use Rattle.safety_model.proofs.device_rule.Holding.{acknowledges-on}
use Rattle.safety_model.proofs.device_rule.Viewed.{seen-coherent, seen-run}
use Rattle.safety_model.specs.Unit.{marks_of, is_of, IsPrompt, Increase, issued_bytes}
use Rattle.unit_rule.specs.Rule.{Started, started, once_mended, seen_unit, IsRuled, HasRowsOn, HasRowsMended}
use Rattle.unit_rule.specs.Marks.{MarkIsKept, UnitFollowsBook}
use Rattle.unit_rule.proofs.Keeping.{keeping_view, kept_view}
use Rattle.unit_rule.proofs.Moves.{shown-last, shown-days, issued-besides}
use Rattle.unit_rule.proofs.RowsOn.{AreRowsOn, rows-besides, rows-start, rows-kept, low-kept}

-- the rule does not ask whether the unit works
abbrev working : Seen UnitView → Seen UnitView
working unit = record unit { works = true }

-- views beside the minutes
abbrev IsAside : UnitView → UnitView → Type 0
IsAside u v = (v.days ≡ u.days) × (v.last ≡ u.last)

-- the marks of the unit among these and one more
pub marks-more : (marks : List Mark) (m : Mark) → m.device ≡ Recorder → marks_of Recorder (marks ++ m ∷ []) ≡ marks_of Recorder marks ++ m ∷ []
marks-more marks m is = filter-append (λ (n : Mark). is_of Recorder n.device) marks (m ∷ []) ∙ ap (λ (ms : List Mark). marks_of Recorder marks ++ ms) (ap (λ (d : Device). cond (is_of Recorder d) (m ∷ []) []) is)

rise-push : (marks : List Mark) (m : Mark) → Increase marks → All (λ n. n.minute < m.minute) marks → Increase (marks ++ m ∷ [])
rise-push [] m rise each = tt
rise-push (n ∷ []) m rise each = (All-head (λ (k : Mark). k.minute < m.minute) n [] each, tt)
rise-push (n ∷ k ∷ marks) m rise each = (rise.0, rise-push (k ∷ marks) m rise.1 (All-tail (λ (l : Mark). l.minute < m.minute) n (k ∷ marks) each))

-- a mark stays one that was told at once
prompt-on : {U V : State} (R : List ℕ → List ℕ → Type 0) (m : Mark) → LeavesOnly U V R → m.clock ≤ U.clock → IsPrompt U m → IsPrompt V m
prompt-on R m run within was told = let x = was (sym run.tells ∙ told) in (x.0, run.keeps _ x.0 (omega (arith, within)) x.1, x.2)

told-image : (o : Option (List ℕ)) → is_some o ≡ true → (x : List ℕ) × (o ≡ Some x)
told-image None told = absurd (cc)
told-image (Some x) told = (x, refl)

-- THE OPENING: a unit that leaves one image only, with these days, this last-kept minute, and issued so; it was not mended yet
pub holds-opened : (s : Started) (unit : State) (x : List ℕ) (due : ℕ) → s.days ≡ recorded x → s.first ≡ last_kept x → s.issued ≡ issued_bytes x → s.image ≡ x → s.mended ≡ false → s.began ≤ unit.clock → ((c : List ℕ) → unit.may_leave c → c ≡ x) → ((c : List ℕ) → unit.left_since s.began c → c ≡ x) →
    FillsDays s.days None [] (recorded x) → Decodes x → last_kept x < due → UnitFollowsBook s due not_begun [] unit
holds-opened s unit x due days first issued image dark later now since fills decodes late = record {
  unit_holds = λ number_a number_b. opened number_a number_b;
  decodes = λ c on. subst Decodes (sym (since c on)) decodes;
  issued = λ c on. ap issued_bytes (since c on) ∙ sym issued;
  rows = λ c on. subst (HasRowsOn s) (sym (since c on)) (rows-start s x image);
  low = λ is c on. absurd (no (sym is ∙ dark));
  marks_hold = All-nil (MarkIsKept s not_begun unit);
  marks_rise = tt;
  marks_until = All-nil (λ (m : Mark). m.minute < due);
}
  where
    no : true ≡ false → ⊥
    no e = cc

    opened : (number_a number_b : List ℕ) → IsRuled s due not_begun (seen_unit number_a number_b unit)
    opened number_a number_b =
        let view = unit_view number_a number_b in
        let early : Seen UnitView = record (seen_unit number_a number_b unit) { clock = s.began } in
        let last : (view x).last ≡ s.first = shown-last number_a number_b x ∙ sym first in
        let rule = opened-unit (FillsDays s.days) early (view x) due
        (λ v on. sym on.2 ∙ ap view (now on.0 on.1)) (λ v on. sym on.2 ∙ ap view (since on.0 on.1))
        (subst (FillsDays s.days None []) (sym (shown-days number_a number_b x)) fills) (omega (arith, last, first, late)) in
        subst (λ (n : ℕ). UnitHolds (FillsDays s.days) n s.began due not_begun (seen_unit number_a number_b unit)) last
        (record { later = later; order = rule.order; now = rule.now; since = rule.since })

-- a unit that has this image alone, which decodes, is a start: so is each image that a run leaves
pub holds-started : (unit : State) (x : List ℕ) (number_a number_b : Option (List ℕ)) (due : ℕ) → IsCoherent unit → ((c : List ℕ) → unit.left_since unit.clock c → c ≡ x) → Decodes x → last_kept x < due → UnitFollowsBook (started x number_a number_b unit.clock) due not_begun [] unit
holds-started unit x number_a number_b due whole since decodes late =
    holds-opened (started x number_a number_b unit.clock) unit x due refl refl refl refl refl (omega arith) (λ c on. since c (whole.counts_now unit.clock c (omega arith) on)) since
    (inl (retained-whole (recorded x) (few_days x (decoded_of x decodes).known))) decodes late
  where
    retained-whole : (days : List ShownDay) → length days ≤ 366 → days ≡ newest_days 366 days
    retained-whole days few = ap (λ (n : ℕ). drop n days) (let none : 0 ≡ length days - 366 = omega (arith, few) in none)

-- marks of the cards are listed beside those of the unit
pub holds-beside : (s : Started) (due : ℕ) (b : Book) (marks more : List Mark) (unit : State) → marks_of Recorder more ≡ [] → UnitFollowsBook s due b marks unit → UnitFollowsBook s due b (marks ++ more) unit
holds-beside s due b marks more unit none h = record {
  unit_holds = h.unit_holds;
  decodes = h.decodes;
  issued = h.issued;
  rows = h.rows;
  low = h.low;
  marks_hold = subst (All (MarkIsKept s b unit)) (sym same) h.marks_hold;
  marks_rise = subst Increase (sym same) h.marks_rise;
  marks_until = subst (All (λ (m : Mark). m.minute < due)) (sym same) h.marks_until;
}
  where
    same : marks_of Recorder (marks ++ more) ≡ marks_of Recorder marks
    same = filter-append (λ (n : Mark). is_of Recorder n.device) marks more ∙ ap (λ (ms : List Mark). marks_of Recorder marks ++ ms) none ∙ append-nil (marks_of Recorder marks)

-- once it was mended, and without that
pub holds-mended : (s : Started) (due : ℕ) (b : Book) (marks : List Mark) (unit : State) → UnitFollowsBook s due b marks unit → ((x : List ℕ) → unit.may_leave x → HasRowsMended s x) → UnitFollowsBook (once_mended s) due b marks unit
holds-mended s due b marks unit h low = record {
  unit_holds = h.unit_holds;
  decodes = h.decodes;
  issued = h.issued;
  rows = h.rows;
  low = λ is. low;
  marks_hold = All-weaker (MarkIsKept s b unit) (MarkIsKept (once_mended s) b unit) (λ m held. record { began = held.began; prompt = held.prompt; holds = held.holds; sure = held.sure }) (marks_of Recorder marks) h.marks_hold;
  marks_rise = h.marks_rise;
  marks_until = h.marks_until;
}

pub holds-dark : (s : Started) (due : ℕ) (b : Book) (marks : List Mark) (unit : State) → UnitFollowsBook (once_mended s) due b marks unit → UnitFollowsBook s due b marks unit
holds-dark s due b marks unit h = record {
  unit_holds = h.unit_holds;
  decodes = h.decodes;
  issued = h.issued;
  rows = h.rows;
  low = λ is. h.low refl;
  marks_hold = All-weaker (MarkIsKept (once_mended s) b unit) (MarkIsKept s b unit) (λ m held. record { began = held.began; prompt = held.prompt; holds = held.holds; sure = held.sure }) (marks_of Recorder marks) h.marks_hold;
  marks_rise = h.marks_rise;
  marks_until = h.marks_until;
}

module _ (s : Started) {U V : State} (due : ℕ) (b : Book) (marks : List Mark) (h : UnitFollowsBook s due b marks U) (before : IsCoherent U) where
  -- every image goes on to decode
  decodes-on : (R : List ℕ → List ℕ → Type 0) → LeavesOnly U V R → ((x c : List ℕ) → R x c → Decodes x → Decodes c) → (c : List ℕ) → V.left_since s.began c → Decodes c
  decodes-on R run goes c on =
      let later : s.began ≤ U.clock = (h.unit_holds [] []).later in
      ⊎_elim (λ was. h.decodes c was) (λ here. goes here.0 c here.2 (h.decodes here.0 (before.counts_now s.began here.0 later (before.is_left here.0 here.1)))) (run.since s.began c later on)

  -- and stays as the unit was issued
  issued-on : (R : List ℕ → List ℕ → Type 0) → LeavesOnly U V R → ((x c : List ℕ) → R x c → issued_bytes c ≡ issued_bytes x) → (c : List ℕ) → V.left_since s.began c → issued_bytes c ≡ s.issued
  issued-on R run goes c on =
      let later : s.began ≤ U.clock = (h.unit_holds [] []).later in
      ⊎_elim (λ was. h.issued c was) (λ here. goes here.0 c here.2 ∙ h.issued here.0 (before.counts_now s.began here.0 later (before.is_left here.0 here.1))) (run.since s.began c later on)

  -- its owed rows go on, and stay mended
  rows-on : (R : List ℕ → List ℕ → Type 0) → LeavesOnly U V R → ((x c : List ℕ) → U.may_leave x → R x c → HasRowsOn s x → HasRowsOn s c) → (c : List ℕ) → V.left_since s.began c → HasRowsOn s c
  rows-on R run goes c on =
      let later : s.began ≤ U.clock = (h.unit_holds [] []).later in
      ⊎_elim (λ was. h.rows c was)
      (λ here. goes here.0 c (before.is_left here.0 here.1) here.2 (h.rows here.0 (before.counts_now s.began here.0 later (before.is_left here.0 here.1)))) (run.since s.began c later on)

  low-on : (R : List ℕ → List ℕ → Type 0) → LeavesOnly U V R → ((x c : List ℕ) → R x c → HasRowsOn s x → HasRowsMended s x → HasRowsMended s c) → s.mended ≡ true → (c : List ℕ) → V.may_leave c → HasRowsMended s c
  low-on R run goes is c on =
      let later : s.began ≤ U.clock = (h.unit_holds [] []).later in
      ⊎_elim (λ was. h.low is c was)
      (λ here. goes here.0 c here.2 (h.rows here.0 (before.counts_now s.began here.0 later (before.is_left here.0 here.1))) (h.low is here.0 (before.is_left here.0 here.1))) (run.now c on)

  -- marks go on to hold where no step falls behind
  held-all : (R : List ℕ → List ℕ → Type 0) → LeavesOnly U V R → (S : UnitView → UnitView → Type 0) (d : Book) → ((number_a number_b : List ℕ) → LeavesViews (seen_unit number_a number_b U) (seen_unit number_a number_b V) S) →
      ((number_a number_b : List ℕ) (u v : UnitView) → (seen_unit number_a number_b U).may_leave u → S u v → u.last ≤ v.last) → ((i : HistoryMinute) → Contains b.sure i → Contains d.sure i) → All (MarkIsKept s d V) (marks_of Recorder marks)
  held-all R left S d run rises sure = All-weaker (MarkIsKept s b U) (MarkIsKept s d V)
      (λ m held. record {
        began = held.began;
        prompt = prompt-on R m left (held.holds [] []).0 held.prompt;
        holds = λ number_a number_b. acknowledges-on (λ (u : UnitView). u.last) m.minute m.clock (seen_unit number_a number_b U) (seen_unit number_a number_b V) S
            (seen-coherent (unit_view number_a number_b) U before) (run number_a number_b) (rises number_a number_b) (held.holds number_a number_b);
        sure = (held.sure.0, sure held.sure.0 held.sure.1, held.sure.2);
      }) (marks_of Recorder marks) h.marks_hold

  -- a step beside the minutes
  pub holds-aside : (R : List ℕ → List ℕ → Type 0) → LeavesOnly U V R → ((x c : List ℕ) → R x c → (recorded c ≡ recorded x) × (last_kept c ≡ last_kept x) × (issued_bytes c ≡ issued_bytes x) × (Decodes x → Decodes c)) → ((x c : List ℕ) → R x c → AreRowsOn s x c) → UnitFollowsBook s due b marks V
  holds-aside R run aside steps = record {
    unit_holds = λ number_a number_b. unit-aside (FillsDays s.days) s.first IsAside s.began due b (h.unit_holds number_a number_b) (goes number_a number_b) (λ u v is. is);
    decodes = decodes-on R run (λ x c here. (aside x c here).3);
    issued = issued-on R run (λ x c here. (aside x c here).2);
    rows = rows-on R run (λ x c there here. (steps x c here).0);
    low = low-on R run (λ x c here. (steps x c here).1);
    marks_hold = held-all R run IsAside b goes (λ number_a number_b u v on is. omega (arith, is.1)) (λ i at. at);
    marks_rise = h.marks_rise;
    marks_until = h.marks_until;
  }
    where
      goes : (number_a number_b : List ℕ) → LeavesViews (seen_unit number_a number_b U) (seen_unit number_a number_b V) IsAside
      goes number_a number_b = seen-run (unit_view number_a number_b) R IsAside U V before run
          (λ x c here. (shown-days number_a number_b c ∙ (aside x c here).0 ∙ sym (shown-days number_a number_b x), shown-last number_a number_b c ∙ (aside x c here).1 ∙ sym (shown-last number_a number_b x)))

  -- calls that only read
  pub holds-read : LeavesOnly U V Unchanged → UnitFollowsBook s due b marks V
  holds-read run = holds-aside Unchanged run (λ x c none. absurd none) (λ x c none. absurd none)

  -- KEEP, once it was mended
  module _ (is_mended : s.mended ≡ true) (i : HistoryMinute) (odometer : ℕ) (none : b.maybe ≡ None) (late : due ≤ i.minute) (run : LeavesOnly U V (journal.IsKeeping (seen_by_unit i) odometer)) where
    keeps : (number_a number_b : List ℕ) → LeavesViews (seen_unit number_a number_b U) (seen_unit number_a number_b V) (IsKeeping KeepsMinute GivesUpDay i)
    keeps number_a number_b = seen-run (unit_view number_a number_b) (journal.IsKeeping (seen_by_unit i) odometer) (IsKeeping KeepsMinute GivesUpDay i) U V before run (keeping_view number_a number_b i odometer)

    -- the rule as device_rule asks for it
    ruled : (number_a number_b : List ℕ) → UnitRule (FillsDays s.days) s.first s.began due b (working (seen_unit number_a number_b U))
    ruled number_a number_b = let rule = h.unit_holds number_a number_b in record { works = refl; none = none; holds = record { later = rule.later; order = rule.order; now = rule.now; since = rule.since } }

    lit : (number_a number_b : List ℕ) → LeavesViews (working (seen_unit number_a number_b U)) (working (seen_unit number_a number_b V)) (IsKeeping KeepsMinute GivesUpDay i)
    lit number_a number_b = let goes = keeps number_a number_b in record { later = goes.later; since = goes.since; now = goes.now }

    early : (number_a number_b : List ℕ) (u : UnitView) → (seen_unit number_a number_b U).may_leave u → u.last < i.minute
    early number_a number_b u on =
        let rule = h.unit_holds number_a number_b in
        last-earlier (FillsDays s.days) s.first KeepsMinute GivesUpDay (days-go-on s.days) due b i none rule.order late u (rule.now u on)

    keeps-up : (number_a number_b : List ℕ) (u v : UnitView) → (seen_unit number_a number_b U).may_leave u → IsKeeping KeepsMinute GivesUpDay i u v → u.last ≤ v.last
    keeps-up number_a number_b u v on k = ⊎_elim (λ old. omega (arith, old.last)) (λ new. omega (arith, new.last, early number_a number_b u on)) k

    kept-rows : (x c : List ℕ) → U.may_leave x → journal.IsKeeping (seen_by_unit i) odometer x c → HasRowsOn s x → HasRowsOn s c
    kept-rows x c there is goes =
        let before_i : (unit_view [] [] x).last < i.minute = early [] [] (unit_view [] [] x) (x, there, refl) in
        let later : last_kept x ≤ last_kept c = ⊎_elim (λ old. omega (arith, old.last)) (λ new. let now : last_kept c ≡ i.minute = new.last in omega (arith, now, before_i, shown-last [] [] x)) is.side in
        rows-kept s x c (rows-besides x c is.outside) later goes (h.low is_mended x there)

    kept-low : (x c : List ℕ) → journal.IsKeeping (seen_by_unit i) odometer x c → HasRowsOn s x → HasRowsMended s x → HasRowsMended s c
    kept-low x c is goes low = low-kept s x c (rows-besides x c is.outside) low

    until-more : All (λ m. m.minute < suc i.minute) (marks_of Recorder marks)
    until-more = All-weaker (λ (m : Mark). m.minute < due) (λ m. m.minute < suc i.minute) (λ m lt. omega (arith, lt, late)) (marks_of Recorder marks) h.marks_until

    -- a minute was kept, and is marked
    pub holds-kept : (m : Mark) → m.device ≡ Recorder → m.minute ≡ i.minute → m.clock ≡ V.clock → V.clock ≤ U.clock + 12 → IsCoherent V → IsSettled V →
        ((c : List ℕ) → V.may_leave c → (x : List ℕ) × U.may_leave x × journal.IsKept (seen_by_unit i) x c) → UnitFollowsBook s (suc i.minute) (kept i b) (marks ++ m ∷ []) V
    holds-kept m device is clock most whole settled ends = record {
      unit_holds = λ number_a number_b.
          let rule = (keep-unit (FillsDays s.days) s.first KeepsMinute GivesUpDay (days-go-on s.days) s.began due b i (ruled number_a number_b) late (lit number_a number_b)
          (record {
            works = refl;
            now = λ v on. let was = ends on.0 on.1 in (unit_view number_a number_b was.0, (was.0, was.1, refl), subst (IsKept KeepsMinute i (unit_view number_a number_b was.0)) on.2 (kept_view number_a number_b i was.0 on.0 was.2));
          })).holds in
          record { later = rule.later; order = rule.order; now = rule.now; since = rule.since };
      decodes = decodes-on (journal.IsKeeping (seen_by_unit i) odometer) run (λ x c here. here.decodes);
      issued = issued-on (journal.IsKeeping (seen_by_unit i) odometer) run (λ x c here. issued-besides x c here.outside);
      rows = rows-on (journal.IsKeeping (seen_by_unit i) odometer) run kept-rows;
      low = low-on (journal.IsKeeping (seen_by_unit i) odometer) run kept-low;
      marks_hold = subst (All (MarkIsKept s (kept i b) V)) (sym (marks-more marks m device))
          (All-append (MarkIsKept s (kept i b) V) (marks_of Recorder marks) (m ∷ [])
          (held-all (journal.IsKeeping (seen_by_unit i) odometer) run (IsKeeping KeepsMinute GivesUpDay i) (kept i b) keeps keeps-up (λ j at. Contains-append_left b.sure (i ∷ []) j at))
          (all-one (MarkIsKept s (kept i b) V) m (record {
            began = let began : s.began ≤ U.clock = (h.unit_holds [] []).later in omega (arith, began, run.later, clock);
            prompt = λ told.
                let x = told-image U.image (sym run.tells ∙ told) in
                let left = before.is_left x.0 x.1 in
                let soon : m.clock - 12 ≤ U.clock = omega (arith, clock, most) in
                (x.0, run.keeps _ x.0 soon (before.counts_now _ x.0 soon left), omega (arith, early [] [] (unit_view [] [] x.0) (x.0, left, refl), shown-last [] [] x.0, is));
            holds = λ number_a number_b. (
              omega (arith, clock),
              λ v on.
                  let there = whole.is_left on.0 (settled on.0 (subst (λ (t : ℕ). V.left_since t on.0) clock on.1)) in
                  let now : last_kept on.0 ≡ i.minute = (ends on.0 there).2.last in
                  let shown : v.last ≡ last_kept on.0 = ap (λ (u : UnitView). u.last) (sym on.2) ∙ shown-last number_a number_b on.0 in
                  omega (arith, is, now, shown),
            );
            sure = (i, Contains-push b.sure i, sym is);
          })));
      marks_rise = subst Increase (sym (marks-more marks m device)) (rise-push (marks_of Recorder marks) m h.marks_rise
          (All-weaker (λ (n : Mark). n.minute < due) (λ n. n.minute < m.minute) (λ n lt. omega (arith, lt, late, is)) (marks_of Recorder marks) h.marks_until));
      marks_until = subst (All (λ (n : Mark). n.minute < suc i.minute)) (sym (marks-more marks m device))
          (All-append (λ (n : Mark). n.minute < suc i.minute) (marks_of Recorder marks) (m ∷ []) until-more (all-one (λ (n : Mark). n.minute < suc i.minute) m (omega (arith, is))));
    }

    -- power was lost in it
    pub holds-broken : UnitFollowsBook s (suc i.minute) (broken i b) marks V
    holds-broken = record {
      unit_holds = λ number_a number_b.
          let rule = keep-unit_dark (FillsDays s.days) s.first KeepsMinute GivesUpDay (days-go-on s.days) s.began due b i (ruled number_a number_b) late (lit number_a number_b) in
          record { later = rule.later; order = rule.order; now = rule.now; since = rule.since };
      decodes = decodes-on (journal.IsKeeping (seen_by_unit i) odometer) run (λ x c here. here.decodes);
      issued = issued-on (journal.IsKeeping (seen_by_unit i) odometer) run (λ x c here. issued-besides x c here.outside);
      rows = rows-on (journal.IsKeeping (seen_by_unit i) odometer) run kept-rows;
      low = low-on (journal.IsKeeping (seen_by_unit i) odometer) run kept-low;
      marks_hold = held-all (journal.IsKeeping (seen_by_unit i) odometer) run (IsKeeping KeepsMinute GivesUpDay i) (broken i b) keeps keeps-up (λ j at. at);
      marks_rise = h.marks_rise;
      marks_until = until-more;
    }

  -- POWER IS BACK, and this minute is found
  pub holds-found : (k : ℕ) → LeavesOnly U V Unchanged → ((c : List ℕ) → V.may_leave c → last_kept c ≡ k) → All (λ i. i.minute ≤ k) b.sure → UnitFollowsBook s due (found k b) marks V
  holds-found k run is sure = record {
    unit_holds = λ number_a number_b.
        let goes = rests number_a number_b in
        let old = h.unit_holds number_a number_b in
        let rule = (found-unit (FillsDays s.days) s.first {U = working (seen_unit number_a number_b U)} {V = working (seen_unit number_a number_b V)} s.began due k b
        (record { later = old.later; order = old.order; now = old.now; since = old.since }) (record { later = goes.later; since = goes.since; now = goes.now }) refl
        (λ v on. ap (λ (u : UnitView). u.last) (sym on.2) ∙ shown-last number_a number_b on.0 ∙ is on.0 on.1) sure).holds in
        record { later = rule.later; order = rule.order; now = rule.now; since = rule.since };
    decodes = decodes-on Unchanged run (λ x c never. absurd never);
    issued = issued-on Unchanged run (λ x c never. absurd never);
    rows = rows-on Unchanged run (λ x c there never. absurd never);
    low = low-on Unchanged run (λ x c never. absurd never);
    marks_hold = held-all Unchanged run Nothing (found k b) rests (λ number_a number_b u v on never. absurd never)
        (λ i at. contains-up_to k (all b) i (All-contains (λ (j : HistoryMinute). j.minute ≤ k) b.sure i sure at) (Contains-append_left b.sure (option_to_list b.maybe) i at));
    marks_rise = h.marks_rise;
    marks_until = h.marks_until;
  }
    where
      rests : (number_a number_b : List ℕ) → LeavesViews (seen_unit number_a number_b U) (seen_unit number_a number_b V) Nothing
      rests number_a number_b = seen-run (unit_view number_a number_b) Unchanged Nothing U V before run (λ x c never. absurd never)
