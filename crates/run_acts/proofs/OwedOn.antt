-- What was owed at an acceptance stays so, whatever is told of that second and of later ones.
use Rattle.std.proofs.Common.{◌≡◌, ◌∙◌, ◌⊎◌, ℕ, suc, List, [], ◌∷◌, ◌++◌, All, Contains, subst, length, take, filter, refl, ap, sym, append-nil, append_assoc}
use Rattle.std.specs.Prelude.{flat_map, nat_lt, not, fold}
use Rattle.std.proofs.Math.Seq.{take-append_seam}
use Rattle.std.proofs.lemmas.List.{same_from_push}
use Rattle.activity_codec.specs.declared.entries.Entry.{Entry}
use Rattle.trace_model.specs.declared.Card.{Card}
use Rattle.trace_model.specs.Trace.{TraceSecond}
use Rattle.unit_model.specs.minute_model.declared.Rule.{Rule}
use Rattle.unit_model.specs.minute_model.Span.{decided_in}
use Rattle.log_model.specs.Log.{RunLog}
use Rattle.log_model.specs.declared.lines.Find.{Find}
use Rattle.log_model.specs.Course.{ToldSecond, Went, Before, went, second_told, before_next, not_begun}
use Rattle.log_model.specs.Spans.{spans_of}
use Rattle.log_model.proofs.Growth.{went-more}
use Rattle.device_calls.specs.history_model.Minutes.{card_history}
use Rattle.device_calls.specs.history_model.Presence.{Start}
use Rattle.device_calls.specs.history_model.History.{minutes_after, decided_of}
use Rattle.device_calls.specs.run_unit_course.Turn.{span_at}
use Rattle.run_events.specs.run_course.Kept.{settled_times}
use Rattle.run_note_record.proofs.Stored.{AtEnd, nothing, push, at-end}
use Rattle.run_acts.specs.Owed.{IsPulledBefore, IsPulledHere, IsOwed, runs_on}

-- ---- what is told of the first of some seconds

none-told : (log : RunLog) → (went log []).told ≡ []
unfolding went
none-told log = refl

told-parts : (log : RunLog) (front rest : List TraceSecond) → (more : List ToldSecond) × ((went log (front ++ rest)).told ≡ (went log front).told ++ more) × (length more ≡ length rest)
told-parts log front [] = ([], ap (λ (ss : List TraceSecond). (went log ss).told) (append-nil front) ∙ sym (append-nil (went log front).told), refl)
told-parts log front (s ∷ rest) =
    let r = told-parts log (front ++ s ∷ []) rest in (
      second_told log (went log front).before s ∷ r.0,
      ap (λ (ss : List TraceSecond). (went log ss).told) (sym (append_assoc front (s ∷ []) rest))
          ∙ r.1
          ∙ ap (λ (w : Went). w.told ++ r.0) (went-more log front s)
          ∙ append_assoc (went log front).told (second_told log (went log front).before s ∷ []) r.0,
      ap suc r.2,
    )

-- a line for each
told-count : (log : RunLog) (ss : List TraceSecond) → length (went log ss).told ≡ length ss
told-count log ss = let r = told-parts log [] ss in ap length (r.1 ∙ ap (λ (l : List ToldSecond). l ++ r.0) (none-told log)) ∙ r.2

fronts-same : (a b x y : List ToldSecond) → a ++ x ≡ b ++ y → length a ≡ length b → a ≡ b
fronts-same a b x y is long = sym (take-append_seam a x) ∙ (λ i. take (long i) (is i)) ∙ take-append_seam b y

-- where two logs tell the same of all they do of the first
told-front : (log later : RunLog) (front rest : List TraceSecond) → went later (front ++ rest) ≡ went log (front ++ rest) → (went later front).told ≡ (went log front).told
told-front log later front rest same =
    let a = told-parts later front rest in
    let b = told-parts log front rest in
    fronts-same (went later front).told (went log front).told a.0 b.0 (sym a.1 ∙ ap (λ (w : Went). w.told) same ∙ b.1) (told-count later front ∙ sym (told-count log front))

-- what the next second has to know is by what was told
abbrev by-told : List ToldSecond → Before
by-told told = fold before_next not_begun.before told

told-push : (b : Before) (ts : List ToldSecond) (t : ToldSecond) → fold before_next b (ts ++ t ∷ []) ≡ before_next (fold before_next b ts) t
told-push b [] t = refl
told-push b (x ∷ ts) t = told-push (before_next b x) ts t

none-before : (log : RunLog) → (went log []).before ≡ by-told (went log []).told
unfolding went
none-before log = refl

before-parts : (log : RunLog) (front rest : List TraceSecond) → (went log front).before ≡ by-told (went log front).told → (went log (front ++ rest)).before ≡ by-told (went log (front ++ rest)).told
before-parts log front [] is = subst (λ (ss : List TraceSecond). (went log ss).before ≡ by-told (went log ss).told) (sym (append-nil front)) is
before-parts log front (s ∷ rest) is =
    let t : ToldSecond = second_told log (went log front).before s in
    subst (λ (ss : List TraceSecond). (went log ss).before ≡ by-told (went log ss).told) (append_assoc front (s ∷ []) rest)
    (before-parts log (front ++ s ∷ []) rest
    (ap (λ (w : Went). w.before) (went-more log front s) ∙ ap (λ (b : Before). before_next b t) is ∙ sym (told-push not_begun.before (went log front).told t) ∙ sym (ap (λ (w : Went). by-told w.told) (went-more log front s))))

told-before : (log : RunLog) (done : List TraceSecond) → (went log done).before ≡ by-told (went log done).told
told-before log done = before-parts log [] done (none-before log)

before-same : (log later : RunLog) (front : List TraceSecond) → (went later front).told ≡ (went log front).told → (went later front).before ≡ (went log front).before
before-same log later front same = told-before later front ∙ ap by-told same ∙ sym (told-before log front)

-- ---- WHERE THE SECONDS BEFORE are told the same
module _ (rule : Rule) (start : Start) (log later : RunLog) (done now : List TraceSecond) (c : Card) (lacks : List Entry) (f : Find) (mark : ℕ) (es : List Entry) where
  goes : ((front : List TraceSecond) (s : TraceSecond) (rest : List TraceSecond) → done ≡ front ++ s ∷ rest → (more : List TraceSecond) × (now ≡ front ++ s ∷ more) × ((went later front).told ≡ (went log front).told)) →
      IsOwed rule start log done c lacks f mark es → IsOwed rule start later now c lacks f mark es
  goes same h =
      let so = same h.at.front h.at.s h.at.later h.at.are in
      record {
        at = record {
          front = h.at.front;
          s = h.at.s;
          later = so.0;
          are = so.1;
          number = h.at.number;
          earlier = h.at.earlier;
          span = h.at.span;
          spans = ap spans_of so.2 ∙ h.at.spans;
          begins = h.at.begins ∙ ap (λ (told : List ToldSecond). not (runs_on told)) (sym so.2);
          times = h.at.times;
          decided = h.at.decided;
        };
        are = h.are
            ∙ ap
            (λ (told : List ToldSecond). filter (λ (e : Entry). nat_lt mark e.minute) (lacks
            ++ card_history c (minutes_after start told [] (flat_map (λ (span : List ToldSecond). decided_of rule span) h.at.earlier ++ decided_in (settled_times h.at.times (span_at rule f.second h.at.span))))))
            (sym so.2);
        behind =
            subst (λ (b : Before). All (λ (e : Entry). Contains lacks e ⊎ (IsPulledBefore rule (went later h.at.front).told f.second h.at.span c e.minute ⊎ IsPulledHere rule b h.at.s h.at.span f.begun c e.minute)) es) (sym (before-same log later h.at.front so.2))
            (subst (λ (told : List ToldSecond). All (λ (e : Entry). Contains lacks e ⊎ (IsPulledBefore rule told f.second h.at.span c e.minute ⊎ IsPulledHere rule (went log h.at.front).before h.at.s h.at.span f.begun c e.minute)) es) (sym so.2) h.behind);
      }

-- behind more seconds,
pub owed-more : (rule : Rule) (start : Start) (log : RunLog) (done more : List TraceSecond) (c : Card) (lacks : List Entry) (f : Find) (mark : ℕ) (es : List Entry) → IsOwed rule start log done c lacks f mark es → IsOwed rule start log (done ++ more) c lacks f mark es
owed-more rule start log done more c lacks f mark es h =
    goes rule start log log done (done ++ more) c lacks f mark es (λ front s rest are. (rest ++ more, ap (λ (ss : List TraceSecond). ss ++ more) are ∙ append_assoc front (s ∷ rest) more, refl)) h

-- by a log that tells the same of them,
pub owed-same : (rule : Rule) (start : Start) (log later : RunLog) (done : List TraceSecond) → went later done ≡ went log done → (c : Card) (lacks : List Entry) (f : Find) (mark : ℕ) (es : List Entry) → IsOwed rule start log done c lacks f mark es → IsOwed rule start later done c lacks f mark es
owed-same rule start log later done same c lacks f mark es h =
    goes rule start log later done done c lacks f mark es
    (λ front s rest are. (rest, are, told-front log later front (s ∷ rest) (ap (went later) (sym are) ∙ same ∙ ap (went log) are))) h

-- and by one that does of all but the last
pub owed-end : (rule : Rule) (start : Start) (log later : RunLog) (done : List TraceSecond) (x : TraceSecond) → went later done ≡ went log done → (c : Card) (lacks : List Entry) (f : Find) (mark : ℕ) (es : List Entry) →
    IsOwed rule start log (done ++ x ∷ []) c lacks f mark es → IsOwed rule start later (done ++ x ∷ []) c lacks f mark es
owed-end rule start log later done x same c lacks f mark es h = goes rule start log later (done ++ x ∷ []) (done ++ x ∷ []) c lacks f mark es (λ front s rest are. (rest, are, by front s rest (at-end rest) are)) h
  where
    by : (front : List TraceSecond) (s : TraceSecond) (rest : List TraceSecond) → AtEnd rest → done ++ x ∷ [] ≡ front ++ s ∷ rest → (went later front).told ≡ (went log front).told
    by front s _ nothing are =
        let whole : done ≡ front = (same_from_push done front x s are).0 in
        ap (λ (ss : List TraceSecond). (went later ss).told) (sym whole) ∙ ap (λ (w : Went). w.told) same ∙ ap (λ (ss : List TraceSecond). (went log ss).told) whole
    by front s _ (push rest y) are =
        let whole : done ≡ front ++ s ∷ rest = (same_from_push done (front ++ s ∷ rest) x y (are ∙ sym (append_assoc front (s ∷ rest) (y ∷ [])))).0 in
        told-front log later front (s ∷ rest) (ap (went later) (sym whole) ∙ same ∙ ap (went log) whole)
