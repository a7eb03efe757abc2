-- Interruptions of power, as the log tells more, and what is known of the cuts between spans.
use Rattle.std.proofs.Common.{◌≡◌, inl, inr, ℕ, ◌+◌, ◌*◌, Bool, true, false, cond, ◌||◌, Option, Some, None, List, [], ◌∷◌, ◌++◌, All, length, take, refl, ap, sym, subst, ◌∙◌}
use Rattle.std.specs.Prelude.{◌==◌, option_map, option_to_list}
use Rattle.std.specs.List.{AllByRecursion}
use Rattle.activity_codec.specs.declared.values.Slot.TheVariants.{Driver, CoDriver}
use Rattle.trace_model.specs.Trace.{TraceSecond}
use Rattle.log_model.specs.declared.lines.Break.{Break}
use Rattle.log_model.specs.Log.{RunLog, kept_after}
use Rattle.log_model.specs.Same.{SameAt}
use Rattle.event_model.specs.declared.kinds.TheConstants.{POWER_INTERRUPTION}
use Rattle.event_model.specs.declared.entries.Span.{Span}
use Rattle.event_model.specs.Spans.{gap_of}
use Rattle.event_model.specs.Events.{Event, Seen, Tearing, number_of, last_number, seen_of, seen_on, seen_with, seen_spans, noted_with, standing, gap_event, gaps_between, gap_events}
use Rattle.note_model.specs.Done.{has_failed_in}
use Rattle.note_model.specs.Events.{noting_second}
use Rattle.log_model.specs.Course.{ToldSecond}
use Rattle.run_unit_course.specs.Lines.{log_of, tells_cut, found_from}
use Rattle.run_unit_course.specs.Turn.{begins_with}
use Rattle.run_unit_course.specs.Followed.{UnitPower, Lit, Due, Lost, IsDark}
use Rattle.run_unit_course.proofs.Lines.{kept-known, tells-append, tells-front, tells-found}
use Rattle.unit_events.specs.Noted.{StayFailed}
use Rattle.unit_events.proofs.Failing.{failed-append}
use Rattle.run_events.specs.Shown.{is_sure_by, HasUnsureMore}
use Rattle.run_events.specs.Gaps.{first_number, CutIsTold, IsUntold, IsKnownGap, AreKnownGaps, OfLast, IsKnownLast, HasGaps, TellsMore}
use Rattle.run_events.specs.Seconds.{seen_next}
use Rattle.run_events.proofs.Unsure.{unsure-all, unsure-behind, unsure-first}
use Rattle.run_events.proofs.Growing.{AreSome, some-spans, seen-more, spans-more}
use Rattle.run_events.proofs.Later.{seen-same}
use Rattle.run_events.proofs.Sure.{last-push}

-- AN INTERRUPTION, by what was kept
gap-kept : (t : Tearing) (log later : RunLog) (span next : List Seen) → kept_after later (last_number span) ≡ kept_after log (last_number span) → gap_event t later span next ≡ gap_event t log span next
gap-kept t log later span [] is = refl
gap-kept t log later span (x ∷ next) is =
    ap (λ (k : ℕ). option_to_list (option_map {T = Span} {U = Event} (λ gap. noted_with POWER_INTERRUPTION gap.begin gap.end (record { driver = standing t x Driver; codriver = standing t x CoDriver })) (gap_of k (number_of x)))) is

-- where nothing was kept there is none
pub gap-nothing : (t : Tearing) (log : RunLog) (span next : List Seen) → kept_after log (last_number span) ≡ 0 → gap_event t log span next ≡ []
gap-nothing t log span [] is = refl
gap-nothing t log span (x ∷ next) is =
    ap (λ (k : ℕ). option_to_list (option_map {T = Span} {U = Event} (λ gap. noted_with POWER_INTERRUPTION gap.begin gap.end (record { driver = standing t x Driver; codriver = standing t x CoDriver })) (gap_of k (number_of x)))) is

-- where the power-on failed it is not sure
gap-unsure : (t : Tearing) (log : RunLog) (span next : List Seen) → has_failed_in log (first_number next) ≡ true → AllByRecursion (λ (e : Event). is_sure_by log e ≡ false) (gap_event t log span next)
gap-unsure t log span [] failed = tt
gap-unsure t log span (x ∷ next) failed = unsure-all log (number_of x) (gap_event t log span (x ∷ next)) failed (by (kept_after log (last_number span) == 0))
  where
    by : (b : Bool) → AllByRecursion (λ (e : Event). noting_second e ≡ number_of x)
        (option_to_list (option_map {T = Span} {U = Event} (λ gap. noted_with POWER_INTERRUPTION gap.begin gap.end (record { driver = standing t x Driver; codriver = standing t x CoDriver }))
        (cond {A = Option Span} b None (Some (record { begin = 60 * (kept_after log (last_number span) + 1); end = number_of x })))))
    by true = tt
    by false = (refl, tt)

-- THE INTERRUPTIONS between known gaps, by a log that tells more
module _ (t : Tearing) (log later : RunLog) (found : List Break) (stay : StayFailed log later) (known : (u : ℕ) → tells_cut u found ≡ true → kept_after later u ≡ kept_after log u) where
  one-leads : (span next : List Seen) (l now : List Event) → IsKnownGap log found span next → HasUnsureMore (is_sure_by later) l now → HasUnsureMore (is_sure_by later) (gap_event t log span next ++ l) (gap_event t later span next ++ now)
  one-leads span next l now (inl told) has =
      subst (λ (es : List Event). HasUnsureMore (is_sure_by later) (gap_event t log span next ++ l) (es ++ now)) (sym (gap-kept t log later span next (known (last_number span) told)))
      (unsure-behind (is_sure_by later) (gap_event t log span next) l now has)
  one-leads span next l now (inr failed) has =
      subst (λ (es : List Event). HasUnsureMore (is_sure_by later) (es ++ l) (gap_event t later span next ++ now)) (sym (gap-nothing t log span next failed.kept))
      (unsure-first (is_sure_by later) (gap_event t later span next) l now (gap-unsure t later span next (stay (first_number next) failed.failed)) has)

  pub gaps-lead : (spans : List (List Seen)) → AreKnownGaps log found spans → HasUnsureMore (is_sure_by later) (gaps_between t log spans) (gaps_between t later spans)
  gaps-lead [] all = refl
  gaps-lead (span ∷ []) all = refl
  gaps-lead (span ∷ next ∷ spans) all = one-leads span next (gaps_between t log (next ∷ spans)) (gaps_between t later (next ∷ spans)) all.0 (gaps-lead (next ∷ spans) all.1)

pub events-lead : (t : Tearing) (log later : RunLog) (unfound : ℕ) (supply : UnitPower) (done : List TraceSecond) → HasGaps log unfound supply done → TellsMore log (take unfound log.breaks) later done →
    HasUnsureMore (is_sure_by later) (gap_events t log done) (gap_events t later done)
events-lead t log later unfound supply done g m =
    subst (λ (xs : List Seen). HasUnsureMore (is_sure_by later) (gap_events t log done) (gaps_between t later (seen_spans xs))) (sym (seen-same log later done m.same))
    (gaps-lead t log later (take unfound log.breaks) m.stay m.known (seen_spans (seen_of log done)) g.known)

-- WHAT IS KNOWN of the gaps, as lines come
module _ (log later : RunLog) (found : List Break) (rest : List Break) (breaks : later.breaks ≡ log.breaks ++ rest) where
  pub tells-later : (u : ℕ) → tells_cut u log.breaks ≡ true → tells_cut u later.breaks ≡ true
  tells-later u is = ap (tells_cut u) breaks ∙ tells-append u log.breaks rest ∙ ap (λ (b : Bool). b || tells_cut u rest) is

  pub kept-later : (u : ℕ) → tells_cut u log.breaks ≡ true → kept_after later u ≡ kept_after log u
  unfolding kept_after
  kept-later u is = ap (λ (bs : List Break). kept_after (log_of bs) u) breaks ∙ kept-known log.breaks rest u is

  pub stay-later : StayFailed log later
  stay-later u failed =
      ap (λ (bs : List Break). has_failed_in (log_of bs) u) breaks ∙ failed-append log.breaks rest u ∙ ap (λ (b : Bool). b || has_failed_in (log_of rest) u) failed

  gap-later : (span next : List Seen) → IsKnownGap log found span next → IsKnownGap later found span next
  gap-later span next (inl told) = inl told
  gap-later span next (inr failed) = inr (record {
    told = tells-later (last_number span) failed.told;
    failed = stay-later (first_number next) failed.failed;
    kept = kept-later (last_number span) failed.told ∙ failed.kept;
  })

  pub gaps-later : (spans : List (List Seen)) → AreKnownGaps log found spans → AreKnownGaps later found spans
  gaps-later [] all = tt
  gaps-later (span ∷ []) all = tt
  gaps-later (span ∷ next ∷ spans) all = (gap-later span next all.0, gaps-later (next ∷ spans) all.1)

  untold-later : (span : List Seen) → IsUntold log found span → IsUntold later found span
  untold-later span h = record { told = tells-later (last_number span) h.told; unfound = h.unfound; kept = kept-later (last_number span) h.told ∙ h.kept }

last-map : (P Q : List Seen → Type 0) → ((span : List Seen) → P span → Q span) → (spans : List (List Seen)) → OfLast P spans → OfLast Q spans
last-map P Q on [] h = tt
last-map P Q on (span ∷ []) h = on span h
last-map P Q on (span ∷ next ∷ spans) h = last-map P Q on (next ∷ spans) h

-- a second that goes on the last span; and one with which a span begins
pub known-first : (log : RunLog) (found : List Break) (span : List Seen) (y : Seen) (next longer : List Seen) → IsKnownGap log found span (y ∷ next) → IsKnownGap log found span (y ∷ longer)
known-first log found span y next longer (inl told) = inl told
known-first log found span y next longer (inr failed) = inr (record { told = failed.told; failed = failed.failed; kept = failed.kept })

known-on : (log : RunLog) (found : List Break) (spans : List (List Seen)) (x : Seen) → AreSome spans → AreKnownGaps log found spans → AreKnownGaps log found (seen_on spans x)
known-on log found [] x some all = tt
known-on log found (span ∷ []) x some all = tt
known-on log found (span ∷ [] ∷ spans) x some all = absurd some.1.0
known-on log found (span ∷ (y ∷ next) ∷ []) x some all = (known-first log found span y next (next ++ x ∷ []) all.0, tt)
known-on log found (span ∷ (y ∷ next) ∷ third ∷ spans) x some all = (all.0, known-on log found ((y ∷ next) ∷ third ∷ spans) x some.1 all.1)

known-push : (log : RunLog) (found : List Break) (spans : List (List Seen)) (next : List Seen) → AreKnownGaps log found spans → OfLast (λ (span : List Seen). IsKnownGap log found span next) spans → AreKnownGaps log found (spans ++ next ∷ [])
known-push log found [] next all is = tt
known-push log found (span ∷ []) next all is = (is, tt)
known-push log found (span ∷ second ∷ spans) next all is = (all.0, known-push log found (second ∷ spans) next all.1 is)

-- its last span then ends with it
pub last-on : (P : List Seen → Type 0) (spans : List (List Seen)) (x : Seen) → ((span : List Seen) → P (span ++ x ∷ [])) → OfLast P (seen_on spans x)
last-on P [] x each = each []
last-on P (span ∷ []) x each = each span
last-on P (span ∷ next ∷ []) x each = each next
last-on P (span ∷ next ∷ third ∷ spans) x each = last-on P (next ∷ third ∷ spans) x each

pub last-one : (P : List Seen → Type 0) (spans : List (List Seen)) (next : List Seen) → P next → OfLast P (spans ++ next ∷ [])
last-one P [] next is = is
last-one P (span ∷ []) next is = is
last-one P (span ∷ second ∷ spans) next is = last-one P (second ∷ spans) next is

pub ends-untold : (log : RunLog) (found : List Break) (x : Seen) → IsUntold log found (x ∷ []) → (span : List Seen) → IsUntold log found (span ++ x ∷ [])
ends-untold log found x h span =
    let is : last_number (span ++ x ∷ []) ≡ number_of x = last-push span x in record {
      told = ap (λ (u : ℕ). tells_cut u log.breaks) is ∙ h.told;
      unfound = ap (λ (u : ℕ). tells_cut u found) is ∙ h.unfound;
      kept = ap (kept_after log) is ∙ h.kept;
    }

lit-any : (log : RunLog) (found : List Break) (spans : List (List Seen)) (more : List ToldSecond) (t : ToldSecond) → IsKnownLast (Lit (more ++ t ∷ [])) log found spans
lit-any log found spans [] t = tt
lit-any log found spans (u ∷ more) t = tt

-- A SECOND MORE
module _ (log later : RunLog) (unfound : ℕ) (done : List TraceSecond) (s : TraceSecond) (same : All (λ s. SameAt log later s.number) done) (rest : List Break) (breaks : later.breaks ≡ log.breaks ++ rest)
    (front : take unfound later.breaks ≡ take unfound log.breaks) where
  abbrev old : List (List Seen)
  old = seen_spans (seen_of log done)

  abbrev x : Seen
  x = seen_next later done s

  abbrev found : List Break
  found = take unfound log.breaks

  spans-now : seen_spans (seen_of later (done ++ s ∷ [])) ≡ seen_with old x
  spans-now = ap seen_spans (seen-more later done s ∙ ap (λ (xs : List Seen). xs ++ x ∷ []) (seen-same log later done same)) ∙ spans-more (seen_of log done) x

  going-on : x.told.lit ≡ true → x.told.starts ≡ false → seen_with old x ≡ seen_on old x
  going-on lit starts = rw lit (rw starts refl)

  beginning : x.told.lit ≡ true → x.told.starts ≡ true → seen_with old x ≡ old ++ (x ∷ []) ∷ []
  beginning lit starts = rw lit (rw starts refl)

  staying-dark : x.told.lit ≡ false → seen_with old x ≡ old
  staying-dark lit = rw lit refl

  -- how the spans are now, with what is known of them
  gaps-of : (supply : UnitPower) (spans : List (List Seen)) → seen_with old x ≡ spans → AreKnownGaps later found spans → IsKnownLast supply later found spans → HasGaps later unfound supply (done ++ s ∷ [])
  gaps-of supply spans are known last =
      let now : spans ≡ seen_spans (seen_of later (done ++ s ∷ [])) = sym are ∙ sym spans-now in record {
        known = subst (λ (fs : List Break). AreKnownGaps later fs (seen_spans (seen_of later (done ++ s ∷ [])))) (sym front) (subst (AreKnownGaps later found) now known);
        last = subst (λ (fs : List Break). IsKnownLast supply later fs (seen_spans (seen_of later (done ++ s ∷ [])))) (sym front) (subst (IsKnownLast supply later found) now last);
      }

  known-old : AreKnownGaps log found old → AreKnownGaps later found old
  known-old known = gaps-later log later found rest breaks old known

  -- with power, in a span that goes on, or with which a span begins once it was found what was kept
  pub lit-known : (supply : UnitPower) → (span : List ToldSecond) → supply ≡ Lit span → HasGaps log unfound supply done → x.told.lit ≡ true → x.told.starts ≡ begins_with span →
      (spans : List (List Seen)) × (seen_with old x ≡ spans) × AreKnownGaps later found spans × ((P : List Seen → Type 0) → ((part : List Seen) → P (part ++ x ∷ [])) → OfLast P spans)
  lit-known supply [] is g lit starts =
      let h : HasGaps log unfound (Lit []) done = subst (λ (p : UnitPower). HasGaps log unfound p done) is g in (
        old ++ (x ∷ []) ∷ [],
        beginning lit starts,
        known-push later found old (x ∷ []) (known-old h.known) (last-map (CutIsTold found) (λ (part : List Seen). IsKnownGap later found part (x ∷ [])) (λ part told. inl told) old h.last),
        λ P each. last-one P old (x ∷ []) (each []),
      )
  lit-known supply (t ∷ span) is g lit starts =
      (seen_on old x, going-on lit starts, known-on later found old x (some-spans (seen_of log done)) (known-old g.known), λ P each. last-on P old x each)

  -- A SECOND WITH POWER, to its end
  pub goes-on : (supply now : UnitPower) (span more : List ToldSecond) (t : ToldSecond) → supply ≡ Lit span → now ≡ Lit (more ++ t ∷ []) → HasGaps log unfound supply done → x.told.lit ≡ true → x.told.starts ≡ begins_with span →
      HasGaps later unfound now (done ++ s ∷ [])
  goes-on supply now span more t is on g lit starts =
      let h = lit-known supply span is g lit starts in
      gaps-of now h.0 h.1 h.2 (subst (λ (p : UnitPower). IsKnownLast p later found h.0) (sym on) (lit-any later found h.0 more t))

  -- A CUT'S
  pub breaks-off : (supply : UnitPower) (span : List ToldSecond) → supply ≡ Lit span → HasGaps log unfound supply done → x.told.lit ≡ true → x.told.starts ≡ begins_with span →
      IsUntold later found (x ∷ []) → HasGaps later unfound Lost (done ++ s ∷ [])
  breaks-off supply span is g lit starts cut =
      let h = lit-known supply span is g lit starts in
      gaps-of Lost h.0 h.1 h.2 (h.3 (IsUntold later found) (ends-untold later found x cut))

  -- A POWER-ON THAT FAILS
  untold-known : (supply : UnitPower) → IsDark supply → (spans : List (List Seen)) → IsKnownLast supply log found spans → OfLast (IsUntold log found) spans
  untold-known (Lit span) dark spans last = absurd dark
  untold-known Due dark spans last = last
  untold-known Lost dark spans last = last

  pub fails : (supply : UnitPower) → IsDark supply → HasGaps log unfound supply done → x.told.lit ≡ true → x.told.starts ≡ true → has_failed_in later (number_of x) ≡ true →
      IsUntold later found (x ∷ []) → HasGaps later unfound Lost (done ++ s ∷ [])
  fails supply dark g lit starts failed cut =
      gaps-of Lost (old ++ (x ∷ []) ∷ []) (beginning lit starts)
      (known-push later found old (x ∷ []) (known-old g.known)
      (last-map (IsUntold log found) (λ (part : List Seen). IsKnownGap later found part (x ∷ []))
      (λ part h. inr (record {
        told = tells-later log later found rest breaks (last_number part) h.told;
        failed = failed;
        kept = kept-later log later found rest breaks (last_number part) h.told ∙ h.kept;
      })) old (untold-known supply dark old g.last)))
      (last-one (IsUntold later found) old (x ∷ []) cut)

  -- A SECOND WITHOUT POWER
  pub stays-dark : (supply now : UnitPower) → IsDark supply → IsDark now → HasGaps log unfound supply done → x.told.lit ≡ false → HasGaps later unfound now (done ++ s ∷ [])
  stays-dark supply now dark still g lit =
      gaps-of now old (staying-dark lit) (known-old g.known)
      (by now still (last-map (IsUntold log found) (IsUntold later found) (λ part h. untold-later log later found rest breaks part h) old (untold-known supply dark old g.last)))
    where
      by : (now : UnitPower) → IsDark now → OfLast (IsUntold later found) old → IsKnownLast now later found old
      by (Lit span) still h = absurd still
      by Due still h = h
      by Lost still h = h

-- POWER IS BACK: what was kept is found of all cuts
whole : (bs : List Break) → take (length bs) bs ≡ bs
whole [] = refl
whole (b ∷ bs) = ap (λ (l : List Break). b ∷ l) (whole bs)

pub is-found : (log later : RunLog) (unfound k : ℕ) (supply : UnitPower) (done : List TraceSecond) → IsDark supply → HasGaps log unfound supply done → All (λ s. SameAt log later s.number) done → later.breaks ≡ found_from unfound k log.breaks →
    HasGaps later (length later.breaks) (Lit []) done
is-found log later unfound k supply done dark g same are =
    let spans : seen_spans (seen_of log done) ≡ seen_spans (seen_of later done) = ap seen_spans (sym (seen-same log later done same)) in
    let all : take (length later.breaks) later.breaks ≡ later.breaks = whole later.breaks in
    let told : (span : List Seen) → tells_cut (last_number span) log.breaks ≡ true → CutIsTold later.breaks span = λ span is. ap (tells_cut (last_number span)) are ∙ tells-found (last_number span) unfound k log.breaks ∙ is in
    record {
      known = subst (λ (fs : List Break). AreKnownGaps later fs (seen_spans (seen_of later done))) (sym all) (subst (AreKnownGaps later later.breaks) spans (each told (seen_spans (seen_of log done)) g.known));
      last = subst (λ (fs : List Break). OfLast (CutIsTold fs) (seen_spans (seen_of later done))) (sym all)
          (subst (OfLast (CutIsTold later.breaks)) spans (by told supply dark (seen_spans (seen_of log done)) g.last));
    }
  where
    one : ((span : List Seen) → tells_cut (last_number span) log.breaks ≡ true → CutIsTold later.breaks span) → (span next : List Seen) → IsKnownGap log (take unfound log.breaks) span next → IsKnownGap later later.breaks span next
    one told span next (inl is) = inl (told span (tells-front (last_number span) unfound log.breaks is))
    one told span next (inr failed) = inl (told span failed.told)

    each : ((span : List Seen) → tells_cut (last_number span) log.breaks ≡ true → CutIsTold later.breaks span) → (spans : List (List Seen)) → AreKnownGaps log (take unfound log.breaks) spans → AreKnownGaps later later.breaks spans
    each told [] all = tt
    each told (span ∷ []) all = tt
    each told (span ∷ next ∷ spans) all = (one told span next all.0, each told (next ∷ spans) all.1)

    by : ((span : List Seen) → tells_cut (last_number span) log.breaks ≡ true → CutIsTold later.breaks span) → (supply : UnitPower) → IsDark supply → (spans : List (List Seen)) → IsKnownLast supply log (take unfound log.breaks) spans → OfLast (CutIsTold later.breaks) spans
    by told (Lit span) dark spans last = absurd dark
    by told Due dark spans last = last-map (IsUntold log (take unfound log.breaks)) (CutIsTold later.breaks) (λ span h. told span h.told) spans last
    by told Lost dark spans last = last-map (IsUntold log (take unfound log.breaks)) (CutIsTold later.breaks) (λ span h. told span h.told) spans last

pub gaps-begin : HasGaps (record { breaks = []; refused = []; finds = [] }) 0 Due []
unfolding seen_of
gaps-begin = record { known = tt; last = tt }
