-- All that a second notes, by type.
use Rattle.std.proofs.Common.{◌≡◌, ◌≢◌, ⊎_elim, ℕ, ◌+◌, ◌*◌, Bool, true, false, cond, ◌&&◌, nat_lt, nat_eq, Option, Some, None, List, [], ◌∷◌, ◌++◌, map, Contains, refl, ap, sym, subst, ◌∙◌, append-nil}
use Rattle.std.specs.Prelude.{◌==◌, flat_map, option_map, option_to_list}
use Rattle.std.specs.List.{AllByRecursion, filter_map, cons_option}
use Rattle.std.proofs.lemmas.Bool.{ne_eqb, eq-eqb}
use Rattle.std.proofs.lemmas.List.Elements.{filter-append}
use Rattle.activity_codec.specs.declared.values.Slot.TheVariants.{Driver, CoDriver}
use Rattle.log_model.specs.declared.lines.Verdict.{Verdict}
use Rattle.log_model.specs.declared.lines.Verdict.TheVariants.{Accepted, NotValid, TimeOverlap}
use Rattle.log_model.specs.Log.{RunLog, kept_after}
use Rattle.log_model.specs.Course.{Visit}
use Rattle.event_model.specs.declared.kinds.TheConstants.{CARD_NOT_VALID, TIME_OVERLAP, DRIVING_WITHOUT_CARD, INSERTION_WHILE_DRIVING, SESSION_NOT_CLOSED, OVER_SPEEDING, POWER_INTERRUPTION, CARD_FAULT}
use Rattle.event_model.specs.declared.entries.Over.{Over}
use Rattle.event_model.specs.declared.entries.Span.{Span}
use Rattle.event_model.specs.Runs.{last_run, runs_behind}
use Rattle.event_model.specs.Spans.{over_of}
use Rattle.event_model.specs.Events.{Event, Seen, Tearing, number_of, last_number, is_bare, bare_event, speed_second, over_event, run_event, noted_with, standing, gap_event, crew_judged, found_events, fault_of, torn_in_turn}
use Rattle.unit_events.specs.Shown.{all_kinds}
use Rattle.unit_events.proofs.Shows.{each-kind}
use Rattle.run_events.specs.Shown.{by_kind}
use Rattle.run_events.specs.Seconds.{span_before, bares_by, is_fast, overs_by, gap_before, gap_by, faults_by, found_by, second_events}
use Rattle.run_events.specs.Running.{judged_notes, second_notes}
use Rattle.run_events.proofs.Shows.{kind-or}

-- EVENTS OF ONE TYPE
abbrev pub OfKind : ℕ → List Event → Type 0
OfKind known es = AllByRecursion (λ (e : Event). e.kind ≡ known) es

pub of-itself : (known : ℕ) (es : List Event) → OfKind known es → by_kind es known ≡ es
of-itself known [] all = refl
of-itself known (e ∷ es) all =
    ap (λ (b : Bool). cond b (e ∷ by_kind es known) (by_kind es known)) (eq-eqb e.kind known all.0) ∙ ap (λ (l : List Event). e ∷ l) (of-itself known es all.1)

pub of-other : (known kind : ℕ) (es : List Event) → known ≢ kind → OfKind known es → by_kind es kind ≡ []
of-other known kind [] ne all = refl
of-other known kind (e ∷ es) ne all =
    ap (λ (b : Bool). cond b (e ∷ by_kind es kind) (by_kind es kind)) (ne_eqb e.kind kind (λ is. ne (sym all.0 ∙ is))) ∙ of-other known kind es ne all.1

kind-map : {X : Type 0} (known : ℕ) (h : X → Event) → ((x : X) → (h x).kind ≡ known) → (xs : List X) → OfKind known (map h xs)
kind-map known h each [] = tt
kind-map known h each (x ∷ xs) = (each x, kind-map known h each xs)

-- runs, each an event of a type if it is one
abbrev MadeOf : ℕ → Option Event → Type 0
MadeOf known None = Unit {0}
MadeOf known (Some e) = e.kind ≡ known

kind-cons : (known : ℕ) (o : Option Event) (es : List Event) → MadeOf known o → OfKind known es → OfKind known (cons_option o es)
kind-cons known None es is all = all
kind-cons known (Some e) es is all = (is, all)

kind-runs : (known : ℕ) (made : List Seen → Option Event) → ((run : List Seen) → MadeOf known (made run)) → (runs : List (List Seen)) → OfKind known (filter_map made runs)
kind-runs known made each [] = tt
kind-runs known made each (run ∷ runs) = kind-cons known (made run) (filter_map made runs) (each run) (kind-runs known made each runs)

bare-kind : (run : List Seen) → MadeOf DRIVING_WITHOUT_CARD (bare_event run)
bare-kind [] = tt
bare-kind (x ∷ run) = refl

over-kind : (run : List Seen) → MadeOf OVER_SPEEDING (over_event run)
over-kind [] = tt
over-kind (x ∷ run) = by (over_of (map speed_second (x ∷ run)))
  where
    by : (o : Option Over) → MadeOf OVER_SPEEDING (option_map {T = Over} {U = Event} (λ over. run_event OVER_SPEEDING over.most over.average x run) o)
    by None = tt
    by (Some over) = refl

module _ (limit : ℕ) (sessions : ℕ → Visit → ℕ) (t : Tearing) (log : RunLog) (spans : List (List Seen)) (x : Seen) where
  lit-kind : (known : ℕ) (lit : Bool) (es : List Event) → OfKind known es → OfKind known (cond lit es [])
  lit-kind known true es all = all
  lit-kind known false es all = tt

  abbrev pub bares : List Event
  bares = cond x.told.lit (bares_by (span_before spans x) (x ∷ [])) []

  abbrev pub overs : List Event
  overs = cond x.told.lit (overs_by limit (span_before spans x) (x ∷ [])) []

  abbrev gaps : List Event
  gaps = gap_by t log spans x

  abbrev faults : List Event
  faults = faults_by t log x

  abbrev judged : List Event
  judged = flat_map (λ (f : Visit × Verdict). judged_notes (sessions (number_of x) f.0) t x f.0 f.1) x.told.course.found

  pub bares-kind : OfKind DRIVING_WITHOUT_CARD bares
  bares-kind =
      lit-kind DRIVING_WITHOUT_CARD x.told.lit (bares_by (span_before spans x) (x ∷ []))
      (kind-runs DRIVING_WITHOUT_CARD bare_event bare-kind (runs_behind is_bare (last_run is_bare (span_before spans x)) (x ∷ [])))

  pub overs-kind : OfKind OVER_SPEEDING overs
  overs-kind =
      lit-kind OVER_SPEEDING x.told.lit (overs_by limit (span_before spans x) (x ∷ []))
      (kind-runs OVER_SPEEDING over_event over-kind (runs_behind (is_fast limit) (last_run (is_fast limit) (span_before spans x)) (x ∷ [])))

  faults-kind : OfKind CARD_FAULT faults
  faults-kind = kind-map CARD_FAULT (fault_of t log x) (λ v. refl) (torn_in_turn t x x.told.course.torn)

  gap-kind : (span : List Seen) → OfKind POWER_INTERRUPTION (gap_event t log span (x ∷ []))
  gap-kind span = by (kept_after log (last_number span) == 0)
    where
      by : (b : Bool) → OfKind POWER_INTERRUPTION
          (option_to_list (option_map {T = Span} {U = Event} (λ gap. noted_with POWER_INTERRUPTION gap.begin gap.end (record { driver = standing t x Driver; codriver = standing t x CoDriver }))
          (cond {A = Option Span} b None (Some (record { begin = 60 * (kept_after log (last_number span) + 1); end = number_of x })))))
      by true = tt
      by false = (refl, tt)

  before-kind : (sp : List (List Seen)) → OfKind POWER_INTERRUPTION (gap_before t log sp x)
  before-kind [] = tt
  before-kind (span ∷ []) = gap-kind span
  before-kind (span ∷ next ∷ sp) = before-kind (next ∷ sp)

  gaps-kind : OfKind POWER_INTERRUPTION gaps
  gaps-kind = by x.told.lit x.told.starts
    where
      by : (lit starts : Bool) → OfKind POWER_INTERRUPTION (cond lit (cond starts (gap_before t log spans x) []) [])
      by true true = before-kind spans
      by true false = tt
      by false starts = tt

  -- WHAT A JUDGED CARD BRINGS, by type
  pub one-judged : (kind session : ℕ) (v : Visit) (verdict : Verdict) → by_kind (judged_notes session t x v verdict) kind ≡ found_events kind session t x v verdict
  one-judged kind session v (NotValid fid place) =
      ⊎_elim (λ is. subst (λ (k : ℕ). by_kind (judged_notes session t x v (NotValid fid place)) k ≡ found_events k session t x v (NotValid fid place)) (sym is) refl)
      (λ ne. ap (λ (b : Bool). cond b (noted_with CARD_NOT_VALID (number_of x) (number_of x) (crew_judged t x v None) ∷ []) []) (ne_eqb CARD_NOT_VALID kind (λ is. ne (sym is)))
      ∙ sym (ap (λ (b : Bool). cond b (noted_with kind (number_of x) (number_of x) (crew_judged t x v None) ∷ []) []) (ne_eqb kind CARD_NOT_VALID ne)))
      (kind-or CARD_NOT_VALID kind)
  one-judged kind session v (TimeOverlap stored now) =
      ⊎_elim (λ is. subst (λ (k : ℕ). by_kind (judged_notes session t x v (TimeOverlap stored now)) k ≡ found_events k session t x v (TimeOverlap stored now)) (sym is) refl)
      (λ ne. ap (λ (b : Bool). cond b (noted_with TIME_OVERLAP (number_of x) stored (crew_judged t x v None) ∷ []) []) (ne_eqb TIME_OVERLAP kind (λ is. ne (sym is)))
      ∙ sym (ap (λ (b : Bool). cond b (noted_with kind (number_of x) stored (crew_judged t x v None) ∷ []) []) (ne_eqb kind TIME_OVERLAP ne)))
      (kind-or TIME_OVERLAP kind)
  one-judged kind session v (Accepted replayed) =
      ⊎_elim (λ is. subst (λ (k : ℕ). by_kind (judged_notes session t x v (Accepted replayed)) k ≡ found_events k session t x v (Accepted replayed)) (sym is) (moved (nat_lt 0 x.told.second.speed) (nat_lt 0 session)))
      (λ ne. ⊎_elim (λ is. subst (λ (k : ℕ). by_kind (judged_notes session t x v (Accepted replayed)) k ≡ found_events k session t x v (Accepted replayed)) (sym is) (unclosed (nat_lt 0 x.told.second.speed) (nat_lt 0 session)))
      (λ other. neither ne other (nat_lt 0 x.told.second.speed) (nat_lt 0 session)
      ∙ sym (ap (λ (b : Bool). cond (b && nat_lt 0 x.told.second.speed) (noted_with kind (number_of x) (number_of x) (crew_judged t x v (Some v.card)) ∷ [])
      (cond ((kind == SESSION_NOT_CLOSED) && nat_lt 0 session) (noted_with kind session (number_of x) (crew_judged t x v (Some v.card)) ∷ []) [])) (ne_eqb kind INSERTION_WHILE_DRIVING ne)
      ∙ ap (λ (b : Bool). cond (b && nat_lt 0 session) (noted_with kind session (number_of x) (crew_judged t x v (Some v.card)) ∷ []) []) (ne_eqb kind SESSION_NOT_CLOSED other)))
      (kind-or SESSION_NOT_CLOSED kind))
      (kind-or INSERTION_WHILE_DRIVING kind)
    where
      five : Event
      five = noted_with INSERTION_WHILE_DRIVING (number_of x) (number_of x) (crew_judged t x v (Some v.card))

      six : Event
      six = noted_with SESSION_NOT_CLOSED session (number_of x) (crew_judged t x v (Some v.card))

      moved : (m s : Bool) → by_kind (cond m (five ∷ []) [] ++ cond s (six ∷ []) []) INSERTION_WHILE_DRIVING ≡ cond m (five ∷ []) []
      moved true true = refl
      moved true false = refl
      moved false true = refl
      moved false false = refl

      unclosed : (m s : Bool) → by_kind (cond m (five ∷ []) [] ++ cond s (six ∷ []) []) SESSION_NOT_CLOSED ≡ cond s (six ∷ []) []
      unclosed true true = refl
      unclosed true false = refl
      unclosed false true = refl
      unclosed false false = refl

      drops : (e : Event) (es : List Event) → e.kind ≢ kind → by_kind (e ∷ es) kind ≡ by_kind es kind
      drops e es ne = ap (λ (b : Bool). cond b (e ∷ by_kind es kind) (by_kind es kind)) (ne_eqb e.kind kind ne)

      neither : kind ≢ INSERTION_WHILE_DRIVING → kind ≢ SESSION_NOT_CLOSED → (m s : Bool) → by_kind (cond m (five ∷ []) [] ++ cond s (six ∷ []) []) kind ≡ []
      neither a b true true = drops five (six ∷ []) (λ is. a (sym is)) ∙ drops six [] (λ is. b (sym is))
      neither a b true false = drops five [] (λ is. a (sym is))
      neither a b false true = drops six [] (λ is. b (sym is))
      neither a b false false = refl

  judged-all : (kind : ℕ) (fs : List (Visit × Verdict)) →
      by_kind (flat_map (λ (f : Visit × Verdict). judged_notes (sessions (number_of x) f.0) t x f.0 f.1) fs) kind ≡ flat_map (λ (f : Visit × Verdict). found_events kind (sessions (number_of x) f.0) t x f.0 f.1) fs
  judged-all kind [] = refl
  judged-all kind (f ∷ fs) =
      filter-append (λ (e : Event). nat_eq e.kind kind) (judged_notes (sessions (number_of x) f.0) t x f.0 f.1) (flat_map (λ (f : Visit × Verdict). judged_notes (sessions (number_of x) f.0) t x f.0 f.1) fs)
      ∙ (λ i. one-judged kind (sessions (number_of x) f.0) f.0 f.1 i ++ judged-all kind fs i)

  -- of the other types none
  abbrev BringsNone : ℕ → Type 0
  BringsNone kind = (session : ℕ) (v : Visit) (verdict : Verdict) → found_events kind session t x v verdict ≡ []

  none-all : (kind : ℕ) → BringsNone kind → (fs : List (Visit × Verdict)) → flat_map (λ (f : Visit × Verdict). found_events kind (sessions (number_of x) f.0) t x f.0 f.1) fs ≡ []
  none-all kind each [] = refl
  none-all kind each (f ∷ fs) = λ i. each (sessions (number_of x) f.0) f.0 f.1 i ++ none-all kind each fs i

  no-bare : BringsNone DRIVING_WITHOUT_CARD
  no-bare session v (NotValid fid place) = refl
  no-bare session v (TimeOverlap stored now) = refl
  no-bare session v (Accepted replayed) = refl

  no-over : BringsNone OVER_SPEEDING
  no-over session v (NotValid fid place) = refl
  no-over session v (TimeOverlap stored now) = refl
  no-over session v (Accepted replayed) = refl

  no-gap : BringsNone POWER_INTERRUPTION
  no-gap session v (NotValid fid place) = refl
  no-gap session v (TimeOverlap stored now) = refl
  no-gap session v (Accepted replayed) = refl

  no-fault : BringsNone CARD_FAULT
  no-fault session v (NotValid fid place) = refl
  no-fault session v (TimeOverlap stored now) = refl
  no-fault session v (Accepted replayed) = refl

  -- THE PARTS by a type
  parts : (kind : ℕ) (j g f b o : List Event) → by_kind judged kind ≡ j → by_kind gaps kind ≡ g → by_kind faults kind ≡ f → by_kind bares kind ≡ b → by_kind overs kind ≡ o →
      by_kind (second_notes limit sessions t log spans x) kind ≡ j ++ (g ++ (f ++ (b ++ o)))
  parts kind j g f b o ej eg ef eb eo =
      let p : Event → Bool = λ e. nat_eq e.kind kind in
      filter-append p judged (gaps ++ (faults ++ (bares ++ overs)))
      ∙ (λ i. ej i ++ (filter-append p gaps (faults ++ (bares ++ overs))
      ∙ (λ k. eg k ++ (filter-append p faults (bares ++ overs) ∙ (λ l. ef l ++ (filter-append p bares overs ∙ (λ m. eb m ++ eo m)) l)) k)) i)

  rest-of : (kind : ℕ) → kind ≢ POWER_INTERRUPTION → kind ≢ CARD_FAULT → kind ≢ DRIVING_WITHOUT_CARD → kind ≢ OVER_SPEEDING → by_kind (second_notes limit sessions t log spans x) kind ≡ found_by kind sessions t x
  rest-of kind g f b o =
      parts kind (found_by kind sessions t x) [] [] [] [] (judged-all kind x.told.course.found)
      (of-other POWER_INTERRUPTION kind gaps (λ is. g (sym is)) gaps-kind) (of-other CARD_FAULT kind faults (λ is. f (sym is)) faults-kind)
      (of-other DRIVING_WITHOUT_CARD kind bares (λ is. b (sym is)) bares-kind) (of-other OVER_SPEEDING kind overs (λ is. o (sym is)) overs-kind)
      ∙ append-nil (found_by kind sessions t x)

  differs : (a b : ℕ) → nat_eq a b ≡ false → a ≢ b
  differs a b is e = let same : nat_eq a b ≡ true = eq-eqb a b e in absurd (let wrong : true ≡ false = sym same ∙ is in cc)

  pub notes-by-kind : (kind : ℕ) → Contains all_kinds kind → by_kind (second_notes limit sessions t log spans x) kind ≡ second_events kind limit sessions t log spans x
  notes-by-kind = each-kind (λ (kind : ℕ). by_kind (second_notes limit sessions t log spans x) kind ≡ second_events kind limit sessions t log spans x)
      (rest-of 0x01 (differs 0x01 0x08 refl) (differs 0x01 0x40 refl) (differs 0x01 0x04 refl) (differs 0x01 0x07 refl))
      (rest-of 0x03 (differs 0x03 0x08 refl) (differs 0x03 0x40 refl) (differs 0x03 0x04 refl) (differs 0x03 0x07 refl))
      (parts 0x04 [] [] [] bares [] (judged-all 0x04 x.told.course.found ∙ none-all 0x04 no-bare x.told.course.found) (of-other 0x08 0x04 gaps (differs 0x08 0x04 refl) gaps-kind)
      (of-other 0x40 0x04 faults (differs 0x40 0x04 refl) faults-kind) (of-itself 0x04 bares bares-kind) (of-other 0x07 0x04 overs (differs 0x07 0x04 refl) overs-kind) ∙ append-nil bares)
      (rest-of 0x05 (differs 0x05 0x08 refl) (differs 0x05 0x40 refl) (differs 0x05 0x04 refl) (differs 0x05 0x07 refl))
      (rest-of 0x06 (differs 0x06 0x08 refl) (differs 0x06 0x40 refl) (differs 0x06 0x04 refl) (differs 0x06 0x07 refl))
      (parts 0x07 [] [] [] [] overs (judged-all 0x07 x.told.course.found ∙ none-all 0x07 no-over x.told.course.found) (of-other 0x08 0x07 gaps (differs 0x08 0x07 refl) gaps-kind)
      (of-other 0x40 0x07 faults (differs 0x40 0x07 refl) faults-kind) (of-other 0x04 0x07 bares (differs 0x04 0x07 refl) bares-kind) (of-itself 0x07 overs overs-kind))
      (parts 0x08 [] gaps [] [] [] (judged-all 0x08 x.told.course.found ∙ none-all 0x08 no-gap x.told.course.found) (of-itself 0x08 gaps gaps-kind)
      (of-other 0x40 0x08 faults (differs 0x40 0x08 refl) faults-kind) (of-other 0x04 0x08 bares (differs 0x04 0x08 refl) bares-kind) (of-other 0x07 0x08 overs (differs 0x07 0x08 refl) overs-kind) ∙ append-nil gaps)
      (parts 0x40 [] [] faults [] [] (judged-all 0x40 x.told.course.found ∙ none-all 0x40 no-fault x.told.course.found) (of-other 0x08 0x40 gaps (differs 0x08 0x40 refl) gaps-kind)
      (of-itself 0x40 faults faults-kind) (of-other 0x04 0x40 bares (differs 0x04 0x40 refl) bares-kind) (of-other 0x07 0x40 overs (differs 0x07 0x40 refl) overs-kind) ∙ append-nil faults)
