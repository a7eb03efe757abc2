-- A card is judged: the events that this brings it.
use Rattle.std.proofs.Common.{◌≡◌, ◌∙◌, ⊎_elim, ℕ, ◌+◌, ◌<◌, ◌≤◌, Bool, true, false, cond, not, Option, Some, None, is_some, nat_eq, List, [], ◌∷◌, ◌++◌, refl, ap, sym, subst, arith, append-nil}
use Rattle.std.specs.Prelude.{◌==◌, ◌&&◌, nat_lt}
use Rattle.std.proofs.lemmas.Bool.{eqb-true}
use Rattle.std.proofs.lemmas.Bool.Decides.{nat_tests}
use Rattle.trace_model.specs.declared.Card.{Card}
use Rattle.trace_model.specs.declared.Card.TheVariants.{A, B}
use Rattle.trace_model.specs.Trace.{TraceSecond}
use Rattle.tach_media.specs.Medium.{State}
use Rattle.tach_media.proofs.Runs.{at_image}
use Rattle.tacho_types.specs.declared.texts.Registration.{Registration}
use Rattle.minute_rules.specs.Kept.{Kept}
use Rattle.tach_media.specs.card_layout.declared.files.Application.{Application}
use Rattle.device_calls.specs.card_image.Fields.{current_use, session_time}
use Rattle.device_calls.specs.card_image.Own.{own_sizes, IsOwnValid}
use Rattle.device_calls.specs.card_files.declared.card_event.CardEvent.{CardEvent}
use Rattle.device_calls.specs.card_files.declared.current_use.CurrentUse.{CurrentUse}
use Rattle.device_calls.specs.card_session.Inserting.{unclosed}
use Rattle.device_calls.specs.event_model.declared.kinds.TheConstants.{INSERTION_WHILE_DRIVING, SESSION_NOT_CLOSED, POWER_INTERRUPTION}
use Rattle.device_calls.specs.device_rule.Views.{other}
use Rattle.log_model.specs.declared.lines.Find.{Find}
use Rattle.log_model.specs.declared.lines.Verdict.{Verdict}
use Rattle.log_model.specs.declared.lines.Verdict.TheVariants as verdict
use Rattle.log_model.specs.Log.{RunLog, In, is_torn_in, found_in}
use Rattle.log_model.specs.Slots.{same_card}
use Rattle.log_model.specs.Course.{Visit}
use Rattle.device_calls.specs.safety_model.Recording.{card_image}
use Rattle.run_minutes.specs.run_promise.Found.{found_of}
use Rattle.run_minutes.specs.run_devices.Told.{arranged}
use Rattle.run_outcome.specs.declared.outcome.Outcome.{Outcome}
use Rattle.run_minutes.specs.run_promise.Origin.{Origin}
use Rattle.run_minutes.specs.run_promise.Beside.{HaveLeftMore}
use Rattle.run_acts.specs.run_note_record.Evented.{images_in}
use Rattle.run_acts.specs.run_note_record.Uses.{uses_from, insertions_at, notes_now, uses_in, use_now}
use Rattle.run_minutes.specs.declared.keeper.Keeper.{Keeper}
use Rattle.run_minutes.specs.declared.keeper.Moment.{Moment as KeepingAt}
use Rattle.run_minutes.specs.Keeping.{tear_of}
use Rattle.run_insertion.specs.declared.lines.Entering.{Entering}
use Rattle.run_insertion.specs.Entering.{Ending, Unfit, Ahead, Fell, Unasked, Unnoted, Seated, Lost, Way, Unread, Unsized, Judged, ending_of, finds_by, breaks_by, falls_of}
use Rattle.run_insertion.specs.Entered.{IsWay}
use Rattle.run_insertion.specs.Noted.{moving_event}
use Rattle.run_insertion.specs.CardEvents.{events_in, all_noted, AreBeingNoted, MayBeNoted, of_type, ShowsMore, ShowsThese, unclosed_on}
use Rattle.run_insertion.specs.CardBrought.{moving_on, brought_on, is_cut_short, BringsOnCard}
use Rattle.run_insertion.proofs.CardBrought.{IsSitting, shows-first}
use Rattle.run_insertion.proofs.MayBe.{being-may}
use Rattle.run_acts.specs.run_record.Within.{RecordInSecond}
use Rattle.run_acts.specs.Closings.{notes_within}
use Rattle.run_acts.specs.Entered.{values_with, MayJudge, HasGone, AreSound}
use Rattle.run_acts.specs.Recording.{IsOrigin, log_of}
use Rattle.run_acts.specs.Truths.{truths_within, marked}
use Rattle.run_acts.specs.Stays.{Whose, covers, AreKnown, AllStay}
use Rattle.run_acts.proofs.AllStay.{known-fewer, stood-broken}
use Rattle.run_acts.proofs.KeptSeats.{floor-in}
use Rattle.run_acts.specs.OnCards.{Bringing, unclosed_at, unclosed_by, unclosed_all, events_by, accepts, moving_at, movings, judging, IsBrought, IsUse, StillShows, AreUses}
use Rattle.run_acts.specs.RunCards.{vehicle_in, sizes_in}
use Rattle.run_acts.proofs.OnCards.{events-none, still-same}
use Rattle.run_acts.proofs.CardBrings.{brought-nothing, brought-less}
use Rattle.run_acts.proofs.CardStays.{valid-found}
use Rattle.run_acts.proofs.EnteredFacts.{mine, mine-back, each, now-is, card-tells, card-began, card-run, unit-told, left}
use Rattle.run_acts.proofs.RingedLines.{phase_at, tear-told}
use Rattle.recorder_with_cards.specs.JudgedRings.{TellsHere}
use Rattle.tach_media.specs.card_layout.declared.files.TheConstants.{LARGEST_IMAGE}
use Rattle.recorder_with_cards.proofs.EnteredMade.{judged-makes}
use Rattle.recorder_with_cards.specs.JudgedCards.{NotesNone, IsSureHere, once_torn, BringsNow, uses_then, IsJudgedOnCards}
use Rattle.recorder_with_cards.proofs.EnteredAdds.{log_with}
use Rattle.recorder_with_cards.proofs.EnteredLines.{TellsOf, verdicts_of, ending-tells, ending-here, tells-same}
use Rattle.recorder_with_cards.proofs.EnteredUses.{FindsBy, ending-finds, use-is}

-- ---- events by type

module _ (kind : ℕ) (U M : CardEvent) (session : U.kind ≡ 6) (moving : M.kind ≡ INSERTION_WHILE_DRIVING) where
  of-both : (a l : Bool) → of_type kind (cond a [] (U ∷ []) ++ cond l (M ∷ []) []) ≡ cond a [] (cond (nat_eq U.kind kind) (U ∷ []) []) ++ cond l (cond (nat_eq M.kind kind) (M ∷ []) []) []
  of-both true true = refl
  of-both true false = refl
  of-both false true = by (nat_eq U.kind kind)
    where
      by : (p : Bool) → cond p (U ∷ cond (nat_eq M.kind kind) (M ∷ []) []) (cond (nat_eq M.kind kind) (M ∷ []) []) ≡ cond p (U ∷ []) [] ++ cond (nat_eq M.kind kind) (M ∷ []) []
      by true = refl
      by false = refl
  of-both false false = sym (append-nil (cond (nat_eq U.kind kind) (U ∷ []) []))

  of-one : (a : Bool) → of_type kind (cond a [] (U ∷ [])) ≡ cond a [] (cond (nat_eq U.kind kind) (U ∷ []) [])
  of-one true = refl
  of-one false = refl

  turned : (n m : ℕ) → nat_eq n m ≡ nat_eq m n
  turned n m = by (nat_eq n m) (nat_eq m n) refl refl
    where
      by : (p q : Bool) → nat_eq n m ≡ p → nat_eq m n ≡ q → p ≡ q
      by true true is are = refl
      by true false is are = absurd (let same = eqb-true n m is in let wrong : nat_eq m n ≡ true = grind (arith, nat_tests) in let clash : true ≡ false = sym wrong ∙ are in cc)
      by false true is are = absurd (let same = eqb-true m n are in let wrong : nat_eq n m ≡ true = grind (arith, nat_tests) in let clash : true ≡ false = sym wrong ∙ is in cc)
      by false false is are = refl

  session-test : nat_eq U.kind kind ≡ (kind == SESSION_NOT_CLOSED)
  session-test = ap (λ (k : ℕ). nat_eq k kind) session ∙ turned 6 kind

  moving-test : nat_eq M.kind kind ≡ (kind == INSERTION_WHILE_DRIVING)
  moving-test = ap (λ (k : ℕ). nat_eq k kind) moving ∙ turned INSERTION_WHILE_DRIVING kind

  -- the types are others
  no-gap : (kind == POWER_INTERRUPTION) ≡ true → ((kind == INSERTION_WHILE_DRIVING) ≡ false) × ((kind == SESSION_NOT_CLOSED) ≡ false)
  no-gap is = let same : kind ≡ POWER_INTERRUPTION = eqb-true kind POWER_INTERRUPTION is in (ap (λ (k : ℕ). k == INSERTION_WHILE_DRIVING) same, ap (λ (k : ℕ). k == SESSION_NOT_CLOSED) same)

  no-session : (kind == INSERTION_WHILE_DRIVING) ≡ true → (kind == SESSION_NOT_CLOSED) ≡ false
  no-session is = let same : kind ≡ INSERTION_WHILE_DRIVING = eqb-true kind INSERTION_WHILE_DRIVING is in ap (λ (k : ℕ). k == SESSION_NOT_CLOSED) same

  core : (a l q8 q5 q6 : Bool) → (q8 ≡ true → (q5 ≡ false) × (q6 ≡ false)) → (q5 ≡ true → q6 ≡ false) → cond a [] (cond q6 (U ∷ []) []) ++ cond l (cond q5 (M ∷ []) []) [] ≡ cond q8 [] (cond q5 (cond l (M ∷ []) []) (cond q6 (cond (not a) (U ∷ []) [] ++ []) []))
  core a l true q5 q6 none one = λ i. off a l i
    where
      off : (a l : Bool) → cond a [] (cond q6 (U ∷ []) []) ++ cond l (cond q5 (M ∷ []) []) [] ≡ []
      off a l = (λ i. cond a [] (cond ((none refl).1 i) (U ∷ []) []) ++ cond l (cond ((none refl).0 i) (M ∷ []) []) []) ∙ same a l
        where
          same : (a l : Bool) → cond {A = List CardEvent} a [] [] ++ cond {A = List CardEvent} l [] [] ≡ []
          same true true = refl
          same true false = refl
          same false true = refl
          same false false = refl
  core a l false true q6 none one = (λ i. cond a [] (cond (one refl i) (U ∷ []) []) ++ cond l (M ∷ []) []) ∙ same a
    where
      same : (a : Bool) → cond a [] [] ++ cond l (M ∷ []) [] ≡ cond l (M ∷ []) []
      same true = refl
      same false = refl
  core true true false false true none one = refl
  core true false false false true none one = refl
  core false true false false true none one = refl
  core false false false false true none one = refl
  core true true false false false none one = refl
  core true false false false false none one = refl
  core false true false false false none one = refl
  core false false false false false none one = refl

  -- those of both, by type
  pub both-type : (a l : Bool) → of_type kind (cond a [] (U ∷ []) ++ cond l (M ∷ []) []) ≡ events_by kind [] (cond l (M ∷ []) []) (cond (not a) (U ∷ []) [] ++ [])
  both-type a l =
      of-both a l
      ∙ (λ i. cond a [] (cond (session-test i) (U ∷ []) []) ++ cond l (cond (moving-test i) (M ∷ []) []) [])
      ∙ core a l (kind == POWER_INTERRUPTION) (kind == INSERTION_WHILE_DRIVING) (kind == SESSION_NOT_CLOSED) no-gap no-session

  -- none of them
  pub none-type : (a l : Bool) → (kind == SESSION_NOT_CLOSED) ≡ false → (kind == INSERTION_WHILE_DRIVING && l) ≡ false → of_type kind (cond a [] (U ∷ []) ++ cond l (M ∷ []) []) ≡ []
  none-type a l six five =
      of-both a l ∙ (λ i. cond a [] (cond ((session-test ∙ six) i) (U ∷ []) []) ++ cond l (cond (moving-test i) (M ∷ []) []) []) ∙ by (kind == INSERTION_WHILE_DRIVING) l five
    where
      same : (b : Bool) → cond {A = List CardEvent} b [] [] ≡ []
      same true = refl
      same false = refl

      by : (q l : Bool) → (q && l) ≡ false → cond a [] [] ++ cond l (cond q (M ∷ []) []) [] ≡ []
      by true true is = absurd (let wrong : true ≡ false = is in cc)
      by true false is = ap (λ (es : List CardEvent). es ++ []) (same a)
      by false true is = ap (λ (es : List CardEvent). es ++ []) (same a)
      by false false is = ap (λ (es : List CardEvent). es ++ []) (same a)

  pub none-one : (a : Bool) → (kind == SESSION_NOT_CLOSED) ≡ false → of_type kind (cond a [] (U ∷ [])) ≡ []
  none-one a six = of-one a ∙ ap (λ (b : Bool). cond a [] (cond b (U ∷ []) [])) (session-test ∙ six) ∙ by a
    where
      by : (b : Bool) → cond {A = List CardEvent} b [] [] ≡ []
      by true = refl
      by false = refl

zero-test : (t : ℕ) → nat_lt 0 t ≡ not (nat_eq t 0)
zero-test t = by (nat_lt 0 t) (nat_eq t 0) refl refl
  where
    by : (p q : Bool) → nat_lt 0 t ≡ p → nat_eq t 0 ≡ q → p ≡ not q
    by true true is are = absurd (let some : 0 < t = grind (arith, nat_tests) in let none : t ≡ 0 = eqb-true t 0 are in omega (arith, some, none))
    by true false is are = refl
    by false true is are = refl
    by false false is are = absurd (let none : t ≤ 0 = grind (arith, nat_tests) in let wrong : nat_eq t 0 ≡ true = grind (arith, nat_tests) in let clash : true ≡ false = sym wrong ∙ are in cc)

no-movings : (c : Card) (own : Registration) (speed : ℕ) → movings c own speed [] ≡ []
no-movings c own speed = by (nat_lt 0 speed)
  where
    by : (b : Bool) → cond {A = List CardEvent} b [] [] ≡ []
    by true = refl
    by false = refl

none-by : (q8 q5 q6 l : Bool) (ms us : List CardEvent) → q6 ≡ false → (q5 && l) ≡ false → cond q8 [] (cond q5 (cond l ms []) (cond q6 us [])) ≡ []
none-by true q5 q6 l ms us six five = refl
none-by false true q6 true ms us six five = absurd (let wrong : true ≡ false = five in cc)
none-by false true q6 false ms us six five = refl
none-by false false true l ms us six five = absurd (let wrong : true ≡ false = six in cc)
none-by false false false l ms us six five = refl

one-more : (n : ℕ) → 1 ≤ 1 + n
one-more n = omega arith

-- where no event is told
nothing-told : (c : Card) (own : Registration) (speed kind : ℕ) → events_by kind [] (movings c own speed []) (unclosed_by [] []) ≡ []
nothing-told c own speed kind = by (nat_lt 0 speed)
  where
    by : (b : Bool) → events_by kind [] (cond b [] []) [] ≡ []
    by true = events-none kind
    by false = events-none kind

-- what a type shows where none of it is noted
none-shown : (cut : Bool) (old new : List (List ℕ)) (es : List CardEvent) → es ≡ [] → ShowsThese cut old es new → new ≡ old
none-shown false old new es none shows = shows ∙ ap (all_noted old) none
none-shown true old new es none shows = subst (λ (l : List CardEvent). AreBeingNoted old l new) none shows

-- ---- the card

same-is : (x y : Card) → same_card x y ≡ true → y ≡ x
same-is A A is = refl
same-is A B is = absurd (let wrong : false ≡ true = is in cc)
same-is B A is = absurd (let wrong : false ≡ true = is in cc)
same-is B B is = refl

same-self : (x : Card) → same_card x x ≡ true
same-self A = refl
same-self B = refl

module _ (o : Origin) (done : List TraceSecond) (s : TraceSecond) (n : ℕ) (waits fewer : List Visit) (e : Entering) (k : Keeper) (out : Outcome) (unfound next_ begun : ℕ) (minutes : Kept) (U X Z : State) (w : RecordInSecond o done s (In n) waits None [] (values_with k out unfound next_ begun minutes) (arranged e.which U X Z)) (m : MayJudge o done s n waits fewer e k out unfound next_ begun minutes U X Z w)
    (origin : IsOrigin o) (vehicle : k.memory.registration ≡ vehicle_in o) (moves : s.speed ≡ e.speed)
    (failed : Bool) (k' : Keeper) (noted noted' : ℕ) (out' : Outcome) (W Y : State) (way : Way) (g : HasGone e failed k k' noted noted' out out' U W X Y Z way) (sound : AreSound U W X Y) (works : IsSitting (ending_of way) → Y.works ≡ true)
    (stay : AllStay o (marked out.marks.items (truths_within o w.b.run.log done s)) s.number (log_of out) (notes_within w.b done s (In n) (log_of out)) k.memory.registration k.cabin (arranged e.which U X Z)) (fits : LARGEST_IMAGE ≤ X.size) where
  second : e.at.second ≡ s.number
  second = now-is o done s n waits fewer e k out unfound next_ begun minutes U X Z w m

  begun-is : e.at.begun ≡ n
  begun-is = ap (λ (q : KeepingAt). q.begun) m.moment

  early : e.at.late ≡ false
  early = ap (λ (q : KeepingAt). q.late) m.moment

  more : HaveLeftMore o (arranged e.which U X Z) (arranged e.which W Y Z)
  more = left o done s n waits fewer e k out unfound next_ begun minutes U X Z w m failed k' noted noted' out' W Y way g sound

  log-is : log_of out' ≡ log_with (ending_of way) e (log_of out)
  log-is = ap log_of g.entered.left.outcome

  tells : TellsOf (log_of out) (log_of out') s.number n e.slot (verdicts_of (ending_of way) e)
  tells =
      subst (λ (l : RunLog). TellsOf (log_of out) l s.number n e.slot (verdicts_of (ending_of way) e)) (sym log-is)
      (subst (λ (x : ℕ). TellsOf (log_of out) (log_with (ending_of way) e (log_of out)) s.number x e.slot (verdicts_of (ending_of way) e)) begun-is
      (subst (λ (x : ℕ). TellsOf (log_of out) (log_with (ending_of way) e (log_of out)) x e.at.begun e.slot (verdicts_of (ending_of way) e)) second
      (ending-tells (ending_of way) e (log_of out) early)))

  -- its lines tell the uses
  finds : FindsBy o w.b.run.log done s e.slot e.which (notes_within w.b done s (In n) (log_of out)) (log_of out) (log_with (ending_of way) e (log_of out)) (verdicts_of (ending_of way) e)
  finds = ending-finds o done s n waits fewer (values_with k out unfound next_ begun minutes) (arranged e.which U X Z) w e m.next_ m.none m.order m.moment (ending_of way)

  -- and what is known of stays then was known before
  known-then : (whose : Whose) → AreKnown whose o (log_of out') (arranged e.which W Y Z) → AreKnown whose o (log_of out) (arranged e.which U X Z)
  known-then whose is =
      known-fewer whose o (log_of out) (log_of out') (breaks_by (ending_of way) e) (arranged e.which U X Z) (arranged e.which W Y Z) (ap (λ (l : RunLog). l.breaks) log-is)
      (stood-broken o (falls_of (ending_of way)) e.which U W X Y Z (floor-in o done s (In n) waits None [] (values_with k out unfound next_ begun minutes) (arranged e.which U X Z) w) g.entered.broken) is

  found-is : found_in (log_of out') s.number (In n) e.slot ≡ verdicts_of (ending_of way) e
  found-is = tells.own ∙ ap (λ (vs : List Verdict). vs ++ verdicts_of (ending_of way) e) m.none

  -- a card that failed is told to be torn out
  tear-line : (l : RunLog) (fs : List Find) → is_torn_in (record l { breaks = l.breaks ++ tear_of e.slot e.at ∷ []; finds = fs }) e.at.second (phase_at e.at) e.slot ≡ true
  unfolding is_torn_in
  tear-line l fs = tear-told e.slot e.at (tear_of e.slot e.at ∷ []) l (record l { breaks = l.breaks ++ tear_of e.slot e.at ∷ [] }) refl ([], [], refl)

  torn-at : (l : RunLog) → log_of out' ≡ l → is_torn_in l e.at.second (phase_at e.at) e.slot ≡ true → is_torn_in (log_of out') s.number (In n) e.slot ≡ true
  torn-at l is torn =
      ap (λ (q : RunLog). is_torn_in q s.number (In n) e.slot) is
      ∙ sym (ap (λ (q : KeepingAt). is_torn_in l q.second (phase_at q) e.slot) m.moment) ∙ torn

  abbrev is_torn : Bool
  is_torn = is_torn_in (log_of out') s.number (In n) e.slot

  torn-told_ : (ending : Ending) → ending_of way ≡ ending → (finds : List Find) → log_with ending e (log_of out) ≡ record (log_of out) { breaks = (log_of out).breaks ++ tear_of e.slot e.at ∷ []; finds = finds } → is_torn_in (log_of out') s.number (In n) e.slot ≡ true
  torn-told_ ending is finds lines = torn-at (record (log_of out) { breaks = (log_of out).breaks ++ tear_of e.slot e.at ∷ []; finds = finds }) (log-is ∙ ap (λ (q : Ending). log_with q e (log_of out)) is ∙ lines) (tear-line (log_of out) finds)

  -- ---- of this card, where it was valid
  module _ (valid : IsOwnValid (card_image o.recording e.which)) where
    abbrev c : Card
    c = e.which

    there : (u : List ℕ) × BringsOnCard way k.memory.registration e failed X Y
    there = let u = unit-told o done s n waits fewer e k out unfound next_ begun minutes U X Z w m in (u.0, at_image (λ (u : List ℕ). BringsOnCard way k.memory.registration e failed X Y) u.1 g.entered.shows)

    sizes-are : (x : List ℕ) → X.may_leave x → own_sizes x ≡ sizes_in o e.which
    sizes-are x at =
        ((w.powered.go.held e.which (valid-found o origin e.which valid)).now x (mine-back e.which U X Z (λ (q : State). q.may_leave x) at)).0
        ∙ ap own_sizes (origin.image e.which)

    -- an image that the card may leave now
    tells-now : is_some Y.image ≡ true
    tells-now =
        let u = unit-told o done s n waits fewer e k out unfound next_ begun minutes U X Z w m in
        (card-run o done s n waits fewer e k out unfound next_ begun minutes U X Z w m failed k' noted noted' out' W Y way g sound).1.tells ∙ card-tells o done s n waits fewer e k out unfound next_ begun minutes U X Z w m

    now-left : (y : List ℕ) × (Y.image ≡ Some y) × Y.may_leave y
    now-left = by Y.image refl tells-now
      where
        by : (q : Option (List ℕ)) → Y.image ≡ q → is_some q ≡ true → (y : List ℕ) × (Y.image ≡ Some y) × Y.may_leave y
        by None is some = absurd (let wrong : false ≡ true = some in cc)
        by (Some y) is some = (y, is, sound.card_behind.is_left y is)

    -- one that it might have left before is one of those since the start
    since : (x : List ℕ) → X.may_leave x → images_in o (arranged e.which W Y Z) e.which x
    since x at =
        more.card e.which x (mine-back e.which U X Z (λ (q : State). q.left_since (found_of o.found e.which).began x)
        (sound.card_before.counts_now (found_of o.found e.which).began x (card-began o done s n waits fewer e k out unfound next_ begun minutes U X Z w m) at))

    abbrev held : ℕ → List ℕ → List (List ℕ)
    held kind x = events_in (sizes_in o e.which) kind x

    -- what comes of it, by these uses at these acceptances
    abbrev came : List CurrentUse → List ℕ → Bringing
    came uses us = judging e.which (vehicle_in o) s.number s.speed (once_torn (is_torn_in (log_of out') s.number (In n) e.slot)) us uses

    -- each type, whether it is sure or not
    abbrev EachBrought : List CurrentUse → List ℕ → (x y : List ℕ) → Type 0
    EachBrought uses us x y = (kind : ℕ) (sure : Bool) → (sure ≡ true → IsSureHere failed (is_torn_in (log_of out') s.number (In n) e.slot) kind s.speed) → IsBrought (images_in o (arranged e.which W Y Z) e.which) kind sure (came uses us) (held kind x) (held kind y)

    abbrev Step : List CurrentUse → List ℕ → List ℕ → Type 0
    Step uses us y = (x : List ℕ) × X.may_leave x × EachBrought uses us x y

    -- this was found on it, by the notes before it
    abbrev TellsFound : List Verdict → Type 0
    TellsFound vs = uses_then o w.b.run.log done s e.which out' ≡ uses_then o w.b.run.log done s e.which out ++ uses_from (vehicle_in o) (use_now o e.which (notes_within w.b done s (In n) (log_of out))) (insertions_at s.number e.slot e.which vs)

    tells_found : TellsFound (verdicts_of (ending_of way) e)
    tells_found = ap (λ (l : RunLog). uses_in o e.which (notes_now w.b.run.log done l s)) log-is ∙ finds.own e.which (same-self e.which)

    -- it tells the use that they have left
    once : (replayed : ℕ) (x : List ℕ) → X.may_leave x → (whose : Whose) → covers whose e.which ≡ true → AreKnown whose o (log_of out) (arranged e.which U X Z) →
        current_use (own_sizes x) x ∷ [] ≡ uses_from (vehicle_in o) (use_now o e.which (notes_within w.b done s (In n) (log_of out))) (insertions_at s.number e.slot e.which (verdict.Accepted replayed ∷ []))
    once replayed x at whose in_ is = ap (λ (held : CurrentUse). held ∷ [])
        (use-is o done s n waits fewer (values_with k out unfound next_ begun minutes) (arranged e.which U X Z) w e.slot e.which m.next_ m.none m.order origin k.memory.registration stay m.bare whose in_ is valid x
        (mine-back e.which U X Z (λ (q : State). q.may_leave x) at))

    -- as it is told of the devices in their order
    brings : (vs : List Verdict) (uses : List CurrentUse) → TellsFound vs → ((whose : Whose) → covers whose e.which ≡ true → AreKnown whose o (log_of out) (arranged e.which U X Z) → uses ≡ uses_from (vehicle_in o) (use_now o e.which (notes_within w.b done s (In n) (log_of out))) (insertions_at s.number e.slot e.which vs)) → AreUses (images_in o (arranged e.which W Y Z) e.which) uses (accepts s.number vs) → ((y : List ℕ) → Y.may_leave y → Step uses (accepts s.number vs) y)
        → BringsNow o e.which s.number s.speed failed is_torn vs (log_of out') (uses_then o w.b.run.log done s e.which out) (uses_then o w.b.run.log done s e.which out') (arranged e.which U X Z) (arranged e.which W Y Z)
    brings vs uses found exact are steps = record {
      uses = uses;
      exact = λ whose in_ is. found ∙ ap (λ (l : List CurrentUse). uses_then o w.b.run.log done s e.which out ++ l) (sym (exact whose in_ (known-then whose is)));
      are = are;
      notes = λ sure why y at.
          let was = steps y (mine e.which W Y Z (λ (q : State). q.may_leave y) at) in
          (was.0, mine-back e.which U X Z (λ (q : State). q.may_leave was.0) was.1, λ kind. was.2 kind (sure kind) (why kind));
    }

    -- of a card that is not accepted no use is found
    without_use : (vs : List Verdict) → TellsFound vs → accepts s.number vs ≡ [] → insertions_at s.number e.slot e.which vs ≡ [] → ((y : List ℕ) → Y.may_leave y → Step [] [] y)
        → BringsNow o e.which s.number s.speed failed is_torn vs (log_of out') (uses_then o w.b.run.log done s e.which out) (uses_then o w.b.run.log done s e.which out') (arranged e.which U X Z) (arranged e.which W Y Z)
    without_use vs found none inserts steps =
        brings vs [] found (λ whose in_ is. ap (uses_from (vehicle_in o) (use_now o e.which (notes_within w.b done s (In n) (log_of out)))) (sym inserts))
        (subst (AreUses (images_in o (arranged e.which W Y Z) e.which) []) (sym none) tt) (λ y at. subst (λ (us : List ℕ). Step [] us y) (sym none) (steps y at))

    -- nothing is noted of it
    same-brought : (x y : List ℕ) → ((kind : ℕ) → held kind y ≡ held kind x) → EachBrought [] [] x y
    same-brought x y same kind sure why = brought-nothing (images_in o (arranged e.which W Y Z) e.which) kind sure (came [] []) (λ is. nothing-told e.which (vehicle_in o) s.speed kind) (held kind x) (held kind y) (same kind)

    plain : (vs : List Verdict) → TellsFound vs → accepts s.number vs ≡ [] → insertions_at s.number e.slot e.which vs ≡ [] → ((y : List ℕ) → Y.may_leave y → (x : List ℕ) × X.may_leave x × ((kind : ℕ) → held kind y ≡ held kind x))
        → BringsNow o e.which s.number s.speed failed is_torn vs (log_of out') (uses_then o w.b.run.log done s e.which out) (uses_then o w.b.run.log done s e.which out') (arranged e.which U X Z) (arranged e.which W Y Z)
    plain vs found none inserts same = without_use vs found none inserts (λ y at. let was = same y at in (was.0, was.1, same-brought was.0 y was.2))

    -- what an image shows where the events of its ending were cut short, or none are noted
    module _ (a : Application) (x y : List ℕ) (sizes : own_sizes x ≡ a) (at : X.may_leave x) where
      app-is : a ≡ sizes_in o e.which
      app-is = sym sizes ∙ sizes-are x at

      -- that its session was not closed alone, and no event of a type that is not noted
      quiet-one : (cut : Bool) (kind : ℕ) → ShowsThese cut (events_in a kind x) (of_type kind (unclosed_on a e.at.second x)) (events_in a kind y) → NotesNone kind s.speed → events_in (sizes_in o e.which) kind y ≡ events_in (sizes_in o e.which) kind x
      quiet-one cut kind shows quiet =
          subst (λ (p : Application). events_in p kind y ≡ events_in p kind x) app-is
          (none-shown cut (events_in a kind x) (events_in a kind y) (of_type kind (unclosed_on a e.at.second x))
          (none-one kind (unclosed (current_use a x) e.at.second) (moving_event k.memory.registration e) refl refl (nat_eq (session_time a x) 0) quiet.0) shows)

      quiet-both : (cut : Bool) (kind : ℕ) → ShowsThese cut (events_in a kind x) (of_type kind (unclosed_on a e.at.second x ++ moving_on k.memory.registration e)) (events_in a kind y) → NotesNone kind s.speed → events_in (sizes_in o e.which) kind y ≡ events_in (sizes_in o e.which) kind x
      quiet-both cut kind shows quiet =
          subst (λ (p : Application). events_in p kind y ≡ events_in p kind x) app-is
          (none-shown cut (events_in a kind x) (events_in a kind y) (of_type kind (unclosed_on a e.at.second x ++ moving_on k.memory.registration e))
          (none-type kind (unclosed (current_use a x) e.at.second) (moving_event k.memory.registration e) refl refl (nat_eq (session_time a x) 0) (nat_lt 0 e.speed) quiet.0
          (ap (λ (v : ℕ). kind == INSERTION_WHILE_DRIVING && nat_lt 0 v) (sym moves) ∙ quiet.1)) shows)

      -- both, as an acceptance brings them, and the first alone
      both-is : (kind : ℕ) → of_type kind (unclosed_on a e.at.second x ++ moving_on k.memory.registration e) ≡ events_by kind [] (movings e.which (vehicle_in o) s.speed (s.number ∷ [])) (unclosed_all s.number (current_use (own_sizes x) x ∷ []))
      both-is kind =
          both-type kind (unclosed (current_use a x) e.at.second) (moving_event k.memory.registration e) refl refl (nat_eq (session_time a x) 0) (nat_lt 0 e.speed)
          ∙ (λ i. events_by kind [] (cond (nat_lt 0 (sym moves i)) (moving_as i ∷ []) []) (cond (sym (zero-test (session_time a x)) i) (unclosed (current_use a x) e.at.second ∷ []) [] ++ []))
          ∙ (λ i. events_by kind [] (movings e.which (vehicle_in o) s.speed (s.number ∷ [])) (unclosed_at (current_use (sym sizes i) x) (second i) ++ []))
        where
          moving_as : moving_event k.memory.registration e ≡ moving_at e.which (vehicle_in o) s.number
          moving_as = λ i. record { kind = INSERTION_WHILE_DRIVING; begin = record { 0 = second i }; end = record { 0 = second i }; registration = vehicle i }

      one-is : (kind : ℕ) → of_type kind (unclosed_on a e.at.second x) ≡ events_by kind [] (movings e.which (vehicle_in o) s.speed []) (unclosed_all s.number (current_use (own_sizes x) x ∷ []))
      one-is kind =
          ap (of_type kind) (sym (append-nil (unclosed_on a e.at.second x)))
          ∙ both-type kind (unclosed (current_use a x) e.at.second) (moving_event k.memory.registration e) refl refl (nat_eq (session_time a x) 0) false
          ∙ (λ i. events_by kind [] (sym (no-movings e.which (vehicle_in o) s.speed) i) (cond (sym (zero-test (session_time a x)) i) (unclosed (current_use a x) e.at.second ∷ []) [] ++ []))
          ∙ (λ i. events_by kind [] (movings e.which (vehicle_in o) s.speed []) (unclosed_at (current_use (sym sizes i) x) (second i) ++ []))

      -- a moment of that may have noted each
      moment-may : (kind : ℕ) (us es : List CardEvent) → us ≡ es → ShowsThese true (events_in a kind x) us (events_in a kind y) → MayBeNoted (held kind x) es (held kind y)
      moment-may kind us es are shows =
          subst (λ (p : Application). MayBeNoted (events_in p kind x) es (events_in p kind y)) app-is
          (subst (λ (l : List CardEvent). MayBeNoted (events_in a kind x) l (events_in a kind y)) are (being-may (events_in a kind x) us (events_in a kind y) shows))

      abbrev known : IsUse (images_in o (arranged e.which W Y Z) e.which) (current_use (own_sizes x) x)
      known = (x, since x at, refl)

      -- it fell as it was judged, before it was accepted
      fell-brought : is_torn_in (log_of out') s.number (In n) e.slot ≡ true → ((kind : ℕ) → ShowsThese true (events_in a kind x) (of_type kind (unclosed_on a e.at.second x)) (events_in a kind y)) → EachBrought [] [] x y
      fell-brought fell shows kind true why =
          ⊎_elim
          (λ clear. absurd (let clash : true ≡ false = sym fell ∙ clear.1 in cc))
          (λ quiet. brought-nothing (images_in o (arranged e.which W Y Z) e.which) kind true (came [] []) (λ is. nothing-told e.which (vehicle_in o) s.speed kind) (held kind x) (held kind y) (quiet-one true kind (shows kind) quiet))
          (why refl)
      fell-brought fell shows kind false why = (
        current_use (own_sizes x) x ∷ [],
        subst (λ (t : Bool). 1 ≤ 0 + once_torn t) (sym fell) (omega arith),
        (known, tt),
        moment-may kind (of_type kind (unclosed_on a e.at.second x)) (events_by kind [] (movings e.which (vehicle_in o) s.speed []) (unclosed_all s.number (current_use (own_sizes x) x ∷ []))) (one-is kind) (shows kind),
      )

      -- it was accepted, and a call failed
      cut-brought : (current : CurrentUse) → ((failed ≡ false) × (is_torn_in (log_of out') s.number (In n) e.slot ≡ false) → ⊥) → ((kind : ℕ) → ShowsThese true (events_in a kind x) (of_type kind (unclosed_on a e.at.second x ++ moving_on k.memory.registration e)) (events_in a kind y))
          → EachBrought (current ∷ []) (s.number ∷ []) x y
      cut-brought current unclear shows kind true why =
          ⊎_elim
          (λ clear. absurd (unclear clear))
          (λ quiet. brought-nothing (images_in o (arranged e.which W Y Z) e.which) kind true (came (current ∷ []) (s.number ∷ []))
          (λ is. none-by (kind == POWER_INTERRUPTION) (kind == INSERTION_WHILE_DRIVING) (kind == SESSION_NOT_CLOSED) (nat_lt 0 s.speed) (moving_at e.which (vehicle_in o) s.number ∷ []) (unclosed_by (current ∷ []) (s.number ∷ [])) quiet.0 quiet.1)
          (held kind x) (held kind y) (quiet-both true kind (shows kind) quiet))
          (why refl)
      cut-brought current unclear shows kind false why = (
        current_use (own_sizes x) x ∷ [],
        one-more (once_torn (is_torn_in (log_of out') s.number (In n) e.slot)),
        (known, tt),
        moment-may kind (of_type kind (unclosed_on a e.at.second x ++ moving_on k.memory.registration e)) (events_by kind [] (movings e.which (vehicle_in o) s.speed (s.number ∷ [])) (unclosed_all s.number (current_use (own_sizes x) x ∷ []))) (both-is kind) (shows kind),
      )

      -- it was accepted, and no call failed
      whole-brought : ((kind : ℕ) → events_in a kind y ≡ all_noted (events_in a kind x) (of_type kind (unclosed_on a e.at.second x ++ moving_on k.memory.registration e))) → EachBrought (current_use (own_sizes x) x ∷ []) (s.number ∷ []) x y
      whole-brought shows kind sure why =
          brought-less (images_in o (arranged e.which W Y Z) e.which) kind true sure (λ is. refl) (came (current_use (own_sizes x) x ∷ []) (s.number ∷ [])) (held kind x) (held kind y)
          (current_use (own_sizes x) x ∷ [], one-more (once_torn (is_torn_in (log_of out') s.number (In n) e.slot)), (known, tt), refl)
          (subst (λ (p : Application). events_in p kind y ≡ all_noted (events_in p kind x) (of_type kind (unclosed_on a e.at.second x ++ moving_on k.memory.registration e))) app-is (shows kind) ∙ ap (all_noted (held kind x)) (both-is kind))

    -- ---- by its way
    abbrev BringsAs : List Verdict → Type 0
    BringsAs vs = BringsNow o e.which s.number s.speed failed is_torn vs (log_of out') (uses_then o w.b.run.log done s e.which out) (uses_then o w.b.run.log done s e.which out') (arranged e.which U X Z) (arranged e.which W Y Z)

    by-way : (v : Way) → way ≡ v → TellsFound (verdicts_of (ending_of v) e) → IsWay v k.memory.registration e failed U.image X Y → BringsOnCard v k.memory.registration e failed X Y → BringsAs (verdicts_of (ending_of v) e)
    by-way Unread is told so b = plain [] told refl refl (λ y at. (y, b y at, λ kind. refl))
    by-way (Unsized field) is told so b = plain (verdicts_of (ending_of (Unsized field)) e) told refl refl (λ y at. (y, b y at, λ kind. refl))
    by-way (Judged a (Unfit fid place)) is told so b = plain (verdict.NotValid fid place ∷ []) told refl refl (λ y at. let was = b y at in (was.0, was.1, λ kind. subst (λ (p : Application). events_in p kind y ≡ events_in p kind was.0) (app-is a was.0 y was.2 was.1) (was.3 kind)))
    by-way (Judged a (Ahead stored)) is told so b = plain (verdict.TimeOverlap stored e.at.second ∷ []) told refl refl (λ y at. let was = b y at in (was.0, was.1, λ kind. subst (λ (p : Application). events_in p kind y ≡ events_in p kind was.0) (app-is a was.0 y was.2 was.1) (was.3 kind)))
    by-way (Judged a Fell) is told so b = without_use [] told refl refl (λ y at. let was = b y at in
        (was.0, was.1, fell-brought a was.0 y was.2 was.1 (torn-told_ Fell (ap ending_of is) ((log_of out).finds ++ []) refl) was.3))
    by-way (Judged a Unasked) is told so b = plain [] told refl refl (λ y at. let was = b y at in (was.0, was.1, λ kind. subst (λ (p : Application). events_in p kind y ≡ events_in p kind was.0) (app-is a was.0 y was.2 was.1) (was.3 kind)))
    by-way (Judged a (Unnoted entered clock)) is told so b =
        let one = b now-left.0 now-left.2 in
        brings (verdict.Accepted entered.replayed ∷ []) (current_use (own_sizes one.0) one.0 ∷ []) told (once entered.replayed one.0 one.1) ((one.0, since one.0 one.1, refl), tt) (λ y at.
        let was = b y at in (
          was.0,
          was.1,
          cut-brought a was.0 y was.2 was.1 (current_use (own_sizes one.0) one.0) (λ clear. absurd (let clash : true ≡ false = sym so.0 ∙ clear.0 in cc))
              (shows-first a (unclosed_on a e.at.second was.0) (moving_on k.memory.registration e) was.0 y was.3),
        ))
    by-way (Judged a (Lost entered clock entry)) is told so b =
        let one = b now-left.0 now-left.2 in
        brings (verdict.Accepted entered.replayed ∷ []) (current_use (own_sizes one.0) one.0 ∷ []) told (once entered.replayed one.0 one.1) ((one.0, since one.0 one.1, refl), tt) (λ y at.
        let was = b y at in (
          was.0,
          was.1,
          cut-brought a was.0 y was.2 was.1 (current_use (own_sizes one.0) one.0)
              (λ clear. let fell = torn-told_ (Lost entered clock entry) (ap ending_of is) ((log_of out).finds ++ finds_by (Lost entered clock entry) e) refl in absurd (let clash : true ≡ false = sym fell ∙ clear.1 in cc)) was.3,
        ))
    by-way (Judged a (Seated entered clock entry)) is told so b = by failed refl b
      where
        one_ : (f : Bool) → BringsOnCard (Judged a (Seated entered clock entry)) k.memory.registration e f X Y → (x : List ℕ) × X.may_leave x × (own_sizes x ≡ a) × ShowsMore a (brought_on (Seated entered clock entry) a k.memory.registration e x) (is_cut_short (Seated entered clock entry) f) x now-left.0
        one_ f h = h now-left.0 now-left.2

        -- it works, so it leaves one image alone
        only : (y : List ℕ) → Y.may_leave y → now-left.0 ≡ y
        only y at =
            let there_ : Y.image ≡ Some y = sound.card_behind.only y (works (subst (λ (v : Way). IsSitting (ending_of v)) (sym is) tt)) at in
            let here_ = now-left.1 in cc

        by : (f : Bool) → failed ≡ f → BringsOnCard (Judged a (Seated entered clock entry)) k.memory.registration e f X Y → BringsAs (verdict.Accepted entered.replayed ∷ [])
        by true fails h =
            let one = one_ true h in
            brings (verdict.Accepted entered.replayed ∷ []) (current_use (own_sizes one.0) one.0 ∷ []) told (once entered.replayed one.0 one.1) ((one.0, since one.0 one.1, refl), tt) (λ y at.
            let was = h y at in
            (was.0, was.1, cut-brought a was.0 y was.2 was.1 (current_use (own_sizes one.0) one.0) (λ clear. absurd (let clash : true ≡ false = sym fails ∙ clear.0 in cc)) was.3))
        by false fine h =
            let one = one_ false h in
            brings (verdict.Accepted entered.replayed ∷ []) (current_use (own_sizes one.0) one.0 ∷ []) told (once entered.replayed one.0 one.1) ((one.0, since one.0 one.1, refl), tt) (λ y at.
            subst (λ (z : List ℕ). Step (current_use (own_sizes one.0) one.0 ∷ []) (s.number ∷ []) z) (only y at)
            (one.0, one.1, whole-brought a one.0 now-left.0 one.2 one.1 one.3))

    own-brings : BringsNow o e.which s.number s.speed failed is_torn (found_in (log_of out') s.number (In n) e.slot) (log_of out') (uses_then o w.b.run.log done s e.which out) (uses_then o w.b.run.log done s e.which out') (arranged e.which U X Z) (arranged e.which W Y Z)
    own-brings =
        subst (λ (vs : List Verdict). BringsNow o e.which s.number s.speed failed is_torn vs (log_of out') (uses_then o w.b.run.log done s e.which out) (uses_then o w.b.run.log done s e.which out') (arranged e.which U X Z) (arranged e.which W Y Z)) (sym found-is) (by-way way refl tells_found g.entered.is there.1)

  -- SO IT IS OF BOTH CARDS
  pub judged-cards : IsJudgedOnCards failed o w.b.run.log done s n e.slot e.which out out' (arranged e.which U X Z) (arranged e.which W Y Z)
  judged-cards = record {
    own = λ c valid is.
        let same : c ≡ e.which = same-is e.which c is in
        subst (λ (q : Card). BringsNow o q s.number s.speed failed is_torn (found_in (log_of out') s.number (In n) e.slot) (log_of out') (uses_then o w.b.run.log done s q out) (uses_then o w.b.run.log done s q out') (arranged e.which U X Z) (arranged e.which W Y Z)) (sym same)
        (own-brings (subst (λ (q : Card). IsOwnValid (card_image o.recording q)) same valid));
    beside = λ c valid away. each e.which U W X Y Z (λ (q : Card) (a b : State). same_card e.which q ≡ false → StillShows (sizes_in o q) a b)
        (λ apart. absurd (let clash : true ≡ false = sym (same-self e.which) ∙ apart in cc)) (λ apart. still-same (sizes_in o (other e.which)) Z) c away;
    others = tells.others;
    still = λ c away. ap (λ (l : RunLog). uses_in o c (notes_now w.b.run.log done l s)) log-is ∙ finds.others c away;
    known = known-then;
    here = subst (λ (l : RunLog). TellsHere (log_of out) l s.number) (sym log-is) (subst (λ (u : ℕ). TellsHere (log_of out) (log_with (ending_of way) e (log_of out)) u) second (ending-here (ending_of way) e (log_of out)));
    cut = tells.cut;
    same = λ x is. tells-same (log_of out) (log_of out') s.number x e.slot (verdicts_of (ending_of way) e) w.moment.up_to.uncut
        (subst (λ (y : ℕ). TellsOf (log_of out) (log_of out') s.number y e.slot (verdicts_of (ending_of way) e)) is tells);
    left = more;
    made = judged-makes o done s n waits fewer e k out unfound next_ begun minutes U X Z w m origin failed k' noted noted' out' W Y way g sound fits;
  }
