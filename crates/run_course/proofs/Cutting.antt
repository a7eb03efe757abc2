-- What a cut's second has decided.
use Rattle.std.proofs.Common.{◌≡◌, ℕ, zero, suc, ◌+◌, ◌-◌, ◌/◌, ◌||◌, Bool, true, false, nat_lt, List, [], ◌∷◌, ◌++◌, length, map, ap, sym, subst, ◌∙◌, arith, append_assoc}
use Rattle.std.proofs.lemmas.Bool.Decides.{nat_tests}
use Rattle.activity_codec.specs.declared.values.Slot.{Slot}
use Rattle.activity_codec.specs.declared.values.Pick.{Pick}
use Rattle.trace_model.specs.Trace.{TraceSecond}
use Rattle.minute_model.specs.declared.Rule.{Rule}
use Rattle.minute_model.specs.declared.Minute.{Minute}
use Rattle.minute_model.specs.Minute.{class_of}
use Rattle.minute_model.specs.Span.{Span, end_of, fed, fed_many, settled, decided_in, count_from, ungiven_of, AreNumbered, AreSettled}
use Rattle.minute_model.proofs.Counted.{settled-more, decided-settled}
use Rattle.minute_model.proofs.Spans.{decided-fed_many}
use Rattle.log_model.specs.Course.{ToldSecond}
use Rattle.log_model.specs.Spans.{AreApart}
use Rattle.log_model.proofs.Spanning.{spanned}
use Rattle.history_model.specs.Presence.{Start}
use Rattle.history_model.specs.History.{decided_of}
use Rattle.history_model.specs.Growth.{picking, settled_where}
use Rattle.history_model.proofs.Deciding.{span-settled}
use Rattle.history_model.proofs.Growing.{apart-last}
use Rattle.run_unit_course.specs.Followed.{Lit}
use Rattle.run_unit_course.specs.Turn.{span_at}
use Rattle.run_course.specs.Followed.{Progress, BookFollowsRun}
use Rattle.run_course.specs.Seconds.{next_told}
use Rattle.run_course.proofs.Steps.{rules_see, with-supply}
use Rattle.run_course.specs.Kept.{settled_times, TheCutHasDecided}
use Rattle.run_course.proofs.Kept.{fed-times, decided-span}

-- a span whose seconds are numbered, and whose settlings are none of later seconds
record IsWhole (span : Span) : Type 0 where
  numbered : AreNumbered span.first span.seconds
  settled_ : AreSettled span

base-whole : (rule : Rule) (start : Start) (from first : ℕ) (done : List TraceSecond) (p : Progress) (span : List ToldSecond) → BookFollowsRun rule start from first done (record p { supply = Lit span }) → IsWhole (span_at rule p.next span)
base-whole rule start from first done p [] f = record { numbered = tt; settled_ = tt }
base-whole rule start from first done p (t ∷ span) f =
    let numbered = (apart-last from (from + length done) f.ended (t ∷ span) (subst (λ (ss : List (List ToldSecond)). AreApart from ss (from + length done)) f.spans (spanned p.log from done f.order).apart)).1 in
    record { numbered = numbered; settled_ = span-settled rule (t ∷ span) numbered }

times-whole : (k : ℕ) (span : Span) → IsWhole span → IsWhole (settled_times k span)
times-whole zero span h = h
times-whole (suc k) span h = let before = times-whole k span h in record { numbered = before.numbered; settled_ = settled-more (settled_times k span) before.settled_ }

picking-whole : (picks : List (Slot × Pick)) (span : Span) → IsWhole span → IsWhole (picking picks span)
picking-whole picks span h = record { numbered = h.numbered; settled_ = h.settled_ }

-- a second fed decides more
fed-more : (span : Span) (speed : ℕ) → IsWhole span → (more : List Minute) × (decided_in (fed span speed) ≡ decided_in span ++ more)
fed-more span speed h = (
  map (class_of span.rule (fed_many span speed 1).seconds) (count_from (ungiven_of span) (ungiven_of (fed_many span speed 1) - ungiven_of span)),
  decided-fed_many span speed 1 h.numbered h.settled_ (omega arith),
)

-- behind these selections and settlings, and perhaps a further settling
grows : (base : Span) (picks : List (Slot × Pick)) (k : ℕ) (settles later : Bool) (speed : ℕ) → IsWhole base → nat_lt 0 k ≡ settles →
    (more : List Minute) × (decided_in (fed (picking picks (settled_where (settles || later) base)) speed) ≡ decided_in (picking picks (settled_times k base)) ++ more)
grows base picks k true later speed whole is =
    let m = fed-more (picking picks (settled_times k base)) speed (picking-whole picks (settled_times k base) (times-whole k base whole)) in (m.0, sym (fed-times k true picks base speed is) ∙ m.1)
grows base picks k false false speed whole is =
    let m = fed-more (picking picks (settled_times k base)) speed (picking-whole picks (settled_times k base) (times-whole k base whole)) in (m.0, sym (fed-times k false picks base speed is) ∙ m.1)
grows base picks zero false true speed whole is =
    let first : List Minute = map (class_of base.rule base.seconds) (count_from (ungiven_of base) (end_of base / 60 - ungiven_of base)) in
    let m = fed-more (picking picks (settled base)) speed (picking-whole picks (settled base) (times-whole 1 base whole)) in (
      first ++ m.0,
      m.1 ∙ ap (λ (xs : List Minute). xs ++ m.0) (decided-settled base whole.numbered whole.settled_) ∙ append_assoc (decided_in base) first m.0,
    )
grows base picks (suc k) false true speed whole is = absurd (let clash : true ≡ false = sym (some k) ∙ is in cc)
  where
    some : (k : ℕ) → nat_lt 0 (suc k) ≡ true
    some k = grind (arith, nat_tests)

pub cut-decided : TheCutHasDecided
cut-decided rule start from first done p f span is s log goes c sp ds rest new h later picks settles speed =
    let t : ToldSecond = next_told log done s in
    let base : Span = span_at rule p.next span in
    let m = grows base c.picks h.times c.settled later s.speed (base-whole rule start from first done p span (with-supply rule start from first done p (Lit span) is f)) h.settles in (
      m.0,
      sym (decided-span rule (suc p.next) span t) ∙ ap decided_in (rules_see rule start from first done p f span is s log goes)
          ∙ ap (λ (ps : List (Slot × Pick)). decided_in (fed (picking ps (settled_where t.course.settled base)) t.second.speed)) picks
          ∙ ap (λ (b : Bool). decided_in (fed (picking c.picks (settled_where b base)) t.second.speed)) settles
          ∙ ap (λ (n : ℕ). decided_in (fed (picking c.picks (settled_where (c.settled || later) base)) n)) speed
          ∙ m.1 ∙ ap (λ (xs : List Minute). xs ++ m.0) (ap decided_in (sym h.span_is) ∙ h.decided) ∙ append_assoc (decided_of rule span) (ds ++ rest) m.0,
    )
