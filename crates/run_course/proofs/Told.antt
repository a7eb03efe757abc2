-- How one second went by a log: with power, without, and where its last second turns out to be a cut's.
use Rattle.std.proofs.Common.{◌≡◌, ℕ, ◌+◌, ◌%◌, ◌<◌, ◌≤◌, Bool, true, false, not, ◌&&◌, ◌||◌, Option, Some, None, List, [], ◌∷◌, ◌++◌, length, refl, ap, sym, ◌∙◌, arith, nat_eq, nat_lt, is_some, append-nil}
use Rattle.std.proofs.lemmas.Bool.Decides.{nat_tests}
use Rattle.activity_codec.specs.declared.values.Slot.{Slot}
use Rattle.activity_codec.specs.declared.values.Slot.TheVariants.{Driver, CoDriver}
use Rattle.trace_model.specs.declared.Action.{Action}
use Rattle.trace_model.specs.Trace.{TraceSecond}
use Rattle.log_model.specs.Log.{RunLog, Phase, In, Keeping, cut_in, is_torn_in, found_in}
use Rattle.log_model.specs.Slots.{Slots, refusal}
use Rattle.log_model.specs.Course.{Course, ToldSecond, Before, Moved, moved_by, unmoved, answered, begins, slot_told, both_told, acted, all_acted, fresh, cut_told, lit_course, has_power, second_told, before_next}
use Rattle.log_model.specs.Spans.{go_on, spans_with}
use Rattle.log_model.proofs.Spanning.{spans-new, spans-on}
use Rattle.history_model.proofs.Growing.{go_on-last}
use Rattle.run_unit_course.specs.Turn.{cut_at_end, cut_last, begins_with}
use Rattle.run_unit_course.specs.Followed.{Lit, as_spans}
use Rattle.run_unit_course.proofs.Spans.{cut_spans, cut-push, cut-spans-last}
use Rattle.run_course.specs.Followed.{Comes, PowerGoesOn, IsLost, IsSupplied}

-- WITH POWER
pub record IsLitAs (log : RunLog) (before : Before) (s : TraceSecond) (t : ToldSecond) : Type 0 where
  pub lit : t.lit ≡ true
  pub starts : t.starts ≡ not before.running
  pub cut : t.cut ≡ is_some (cut_in log s.number)
  pub number : t.second.number ≡ s.number
  pub given : t.given ≡ s.has_power

pub lit-told : (log : RunLog) (before : Before) (s : TraceSecond) → has_power before s ≡ true → IsLitAs log before s (second_told log before s)
lit-told log before s power = rw power (record { lit = refl; starts = refl; cut = refl; number = refl; given = refl })

-- without
pub record IsDarkAs (s : TraceSecond) (t : ToldSecond) : Type 0 where
  pub lit : t.lit ≡ false
  pub cut : t.cut ≡ false
  pub number : t.second.number ≡ s.number
  pub given : t.given ≡ s.has_power

pub dark-told : (log : RunLog) (before : Before) (s : TraceSecond) → has_power before s ≡ false → IsDarkAs s (second_told log before s)
dark-told log before s none = rw none (record { lit = refl; cut = refl; number = refl; given = refl })

pub told-lit : (log : RunLog) (before : Before) (s : TraceSecond) → (second_told log before s).lit ≡ has_power before s
told-lit log before s = go (has_power before s) refl
  where
    go : (b : Bool) → has_power before s ≡ b → (second_told log before s).lit ≡ b
    go true is = rw is refl
    go false is = rw is refl

-- the power of the next second
pub comes-power : (before : Before) (s : TraceSecond) (next : ℕ) → Comes before next → s.number ≡ next → s.has_power ≡ true → has_power before s ≡ true
comes-power before s next h number given =
    ap (λ (b : Bool). b && (not before.gone || nat_eq (s.number % 60) 0 || not before.given)) given
    ∙ ap (λ (n : ℕ). true && (not before.gone || nat_eq (n % 60) 0 || not before.given)) number ∙ h.comes

pub going-power : (before : Before) (s : TraceSecond) → PowerGoesOn before → s.has_power ≡ true → has_power before s ≡ true
going-power before s h given =
    ap (λ (b : Bool). b && (not before.gone || nat_eq (s.number % 60) 0 || not before.given)) given
    ∙ ap (λ (b : Bool). true && (not b || nat_eq (s.number % 60) 0 || not before.given)) h.gone

pub lit-power : (span : List ToldSecond) (before : Before) (s : TraceSecond) (next : ℕ) → IsSupplied (Lit span) before next → s.number ≡ next → s.has_power ≡ true → has_power before s ≡ true
lit-power [] before s next h number given = comes-power before s next h number given
lit-power (t ∷ span) before s next h number given = going-power before s h given

pub lit-starts : (span : List ToldSecond) (before : Before) (next : ℕ) → IsSupplied (Lit span) before next → not before.running ≡ begins_with span
lit-starts [] before next h = ap not h.running
lit-starts (t ∷ span) before next h = ap not h.running

pub lost-comes : (before : Before) (next : ℕ) → IsLost before → next % 60 ≡ 0 → Comes before next
lost-comes before next h minute = record {
  running = h.running;
  comes = ap (λ (b : Bool). true && (not before.gone || b || not before.given)) now ∙ either (not before.gone) (not before.given);
}
  where
    now : nat_eq (next % 60) 0 ≡ true
    now = grind (arith, nat_tests)

    either : (a b : Bool) → (true && (a || true || b)) ≡ true
    either true b = refl
    either false b = refl

pub lost-dark : (before : Before) (s : TraceSecond) → IsLost before → 0 < s.number % 60 → has_power before s ≡ false
lost-dark before s h some =
    ap (λ (b : Bool). s.has_power && (not b || nat_eq (s.number % 60) 0 || not before.given)) h.gone
    ∙ ap (λ (b : Bool). s.has_power && (false || b || not before.given)) other
    ∙ ap (λ (b : Bool). s.has_power && (false || false || not b)) h.given
    ∙ nothing s.has_power
  where
    other : nat_eq (s.number % 60) 0 ≡ false
    other = grind (arith, nat_tests)

    nothing : (b : Bool) → (b && false) ≡ false
    nothing true = refl
    nothing false = refl

-- WHAT COMES BEHIND
and-false : (b : Bool) → (b && false) ≡ false
and-false true = refl
and-false false = refl

pub next-going : (before : Before) (t : ToldSecond) → t.lit ≡ true → t.cut ≡ false → t.given ≡ true → PowerGoesOn (before_next before t)
next-going before t lit cut given = record {
  running = ap (λ (b : Bool). b && not t.cut) lit ∙ ap (λ (b : Bool). true && not b) cut;
  gone = ap (λ (b : Bool). b || (before.gone && not t.lit)) cut ∙ ap (λ (b : Bool). false || (before.gone && not b)) lit ∙ and-false before.gone;
  given = given;
}

pub next-lost : (before : Before) (t : ToldSecond) → t.cut ≡ true → t.given ≡ true → IsLost (before_next before t)
next-lost before t cut given = record {
  running = ap (λ (b : Bool). t.lit && not b) cut ∙ and-false t.lit;
  gone = ap (λ (b : Bool). b || (before.gone && not t.lit)) cut;
  given = given;
}

pub next-dark : (before : Before) (t : ToldSecond) → IsLost before → t.lit ≡ false → t.cut ≡ false → t.given ≡ true → IsLost (before_next before t)
next-dark before t h lit cut given = record {
  running = ap (λ (b : Bool). b && not t.cut) lit;
  gone = ap (λ (b : Bool). b || (before.gone && not t.lit)) cut ∙ ap (λ (b : Bool). false || (b && not t.lit)) h.gone ∙ ap (λ (b : Bool). false || (true && not b)) lit;
  given = given;
}

-- behind a second of an `off` line
pub record IsOff (before : Before) : Type 0 where
  pub running : before.running ≡ false
  pub given : before.given ≡ false

pub next-off : (before : Before) (t : ToldSecond) → t.lit ≡ false → t.given ≡ false → IsOff (before_next before t)
next-off before t lit given = record { running = ap (λ (b : Bool). b && not t.cut) lit; given = given }

pub off-comes : (before : Before) → IsOff before → (n : ℕ) → Comes before n
off-comes before h n = record {
  running = h.running;
  comes = ap (λ (b : Bool). true && (not before.gone || nat_eq (n % 60) 0 || not b)) h.given ∙ either (not before.gone || nat_eq (n % 60) 0);
}
  where
    either : (a : Bool) → (true && (a || true)) ≡ true
    either true = refl
    either false = refl

-- IN THE SPANS
pub spans-lit : (ended : List (List ToldSecond)) (span : List ToldSecond) (t : ToldSecond) → t.lit ≡ true → t.starts ≡ begins_with span → spans_with (ended ++ as_spans span) t ≡ ended ++ (span ++ t ∷ []) ∷ []
spans-lit ended [] t lit starts = spans-new (ended ++ []) t lit starts ∙ ap (λ (ss : List (List ToldSecond)). ss ++ (t ∷ []) ∷ []) (append-nil ended)
spans-lit ended (x ∷ span) t lit starts = spans-on (ended ++ (x ∷ span) ∷ []) t lit starts ∙ go_on-last ended (x ∷ span) t

pub solid-push : (span : List ToldSecond) (t : ToldSecond) → as_spans (span ++ t ∷ []) ≡ (span ++ t ∷ []) ∷ []
solid-push [] t = refl
solid-push (x ∷ span) t = refl

pub solid-cut : (t : ToldSecond) (span : List ToldSecond) → as_spans (cut_last (t ∷ span)) ≡ cut_last (t ∷ span) ∷ []
solid-cut t [] = refl
solid-cut t (u ∷ span) = refl

-- THE SECOND TURNS OUT TO BE A CUT'S, behind all of its actions
cut-on : (spans : List (List ToldSecond)) (t : ToldSecond) → go_on spans (cut_at_end t) ≡ cut_spans (go_on spans t)
cut-on [] t = refl
cut-on (x ∷ []) t = ap (λ (s : List ToldSecond). s ∷ []) (sym (cut-push x t))
cut-on (x ∷ y ∷ []) t = ap (λ (ss : List (List ToldSecond)). x ∷ ss) (cut-on (y ∷ []) t)
cut-on (x ∷ y ∷ z ∷ spans) t = ap (λ (ss : List (List ToldSecond)). x ∷ ss) (cut-on (y ∷ z ∷ spans) t)

pub cut-with : (spans : List (List ToldSecond)) (t : ToldSecond) → t.lit ≡ true → spans_with spans (cut_at_end t) ≡ cut_spans (spans_with spans t)
cut-with spans t lit = go t.starts refl
  where
    go : (b : Bool) → t.starts ≡ b → spans_with spans (cut_at_end t) ≡ cut_spans (spans_with spans t)
    go true is = spans-new spans (cut_at_end t) lit is ∙ sym (cut-spans-last spans (t ∷ [])) ∙ ap cut_spans (sym (spans-new spans t lit is))
    go false is = spans-on spans (cut_at_end t) lit is ∙ cut-on spans t ∙ ap cut_spans (sym (spans-on spans t lit is))

-- two logs that tell the same tears and finds of a second, and in which each of its actions begins
module _ (log later : RunLog) (s : TraceSecond) (torn : (p : Phase) (slot : Slot) → is_torn_in later s.number p slot ≡ is_torn_in log s.number p slot)
    (found : (p : Phase) (slot : Slot) → found_in later s.number p slot ≡ found_in log s.number p slot) (none : cut_in log s.number ≡ None) (some : cut_in later s.number ≡ Some (length s.actions)) where
  slot-same : (p : Phase) (e : Moved) (slot : Slot) (c : Course) → slot_told later s.number p e slot c ≡ slot_told log s.number p e slot c
  slot-same p e slot c = rw (torn p slot) (rw (found p slot) refl)

  both-same : (p : Phase) (e : Moved) (c : Course) → both_told later s.number p e c ≡ both_told log s.number p e c
  both-same p e c =
      slot-same p e CoDriver (slot_told later s.number p e Driver c) ∙ ap (slot_told log s.number p e CoDriver) (slot-same p e Driver c)

  acted-same : (n : ℕ) (a : Action) (c : Course) → n < length s.actions → acted later s n a c ≡ acted log s n a c
  acted-same n a c lt =
      rw (ap (λ (o : Option ℕ). begins o n) some ∙ within n (length s.actions) lt)
      (rw (ap (λ (o : Option ℕ). begins o n) none) (both-same (In (n + 1)) (moved_by n (refusal c.slots s.speed a) a c.slots) (answered n (refusal c.slots s.speed a) a c)))
    where
      within : (m k : ℕ) → m < k → nat_lt m k ≡ true
      within m k lt = grind (arith, nat_tests)

  all-same : (n : ℕ) (acts : List Action) (c : Course) → n + length acts ≤ length s.actions → all_acted later s n acts c ≡ all_acted log s n acts c
  all-same n [] c le = refl
  all-same n (a ∷ acts) c le =
      all-same (n + 1) acts (acted later s n a c) (omega (arith, le)) ∙ ap (all_acted log s (n + 1) acts) (acted-same n a c (omega (arith, le)))

  course-cut : (starts : Bool) (slots : Slots) → lit_course later s starts slots ≡ cut_told true (lit_course log s starts slots)
  course-cut starts slots =
      let begun : Course = both_told log s.number (In 0) (unmoved starts) (fresh starts slots) in
      let whole : Course = both_told log s.number Keeping (unmoved false) (all_acted log s 0 s.actions begun) in
      let keeps =
      ap (λ (c : Course). both_told later s.number Keeping (unmoved false) (all_acted later s 0 s.actions c)) (both-same (In 0) (unmoved starts) (fresh starts slots))
      ∙ ap (both_told later s.number Keeping (unmoved false)) (all-same 0 s.actions begun (omega arith))
      ∙ both-same Keeping (unmoved false) (all_acted log s 0 s.actions begun) in
      ap (λ (o : Option ℕ). cut_told (is_some o) (both_told later s.number Keeping (unmoved false) (all_acted later s 0 s.actions (both_told later s.number (In 0) (unmoved starts) (fresh starts slots))))) some
      ∙ ap (cut_told true) keeps
      ∙ sym (ap (λ (o : Option ℕ). cut_told true (cut_told (is_some o) whole)) none)

  abbrev lit_as : (starts : Bool) → Course → (cut : Bool) → ToldSecond
  lit_as starts c cut = record { second = record { number = s.number; speed = s.speed; picks = c.picks }; given = s.has_power; lit = true; starts = starts; cut = cut; course = c }

  as-lit : (l : RunLog) (before : Before) → has_power before s ≡ true → second_told l before s ≡ lit_as (not before.running) (lit_course l s (not before.running) before.slots) (is_some (cut_in l s.number))
  as-lit l before power = rw power refl

  pub second-cut : (before : Before) → has_power before s ≡ true → second_told later before s ≡ cut_at_end (second_told log before s)
  second-cut before power =
      as-lit later before power
      ∙ ap (λ (c : Course). lit_as (not before.running) c (is_some (cut_in later s.number))) (course-cut (not before.running) before.slots)
      ∙ ap (λ (o : Option ℕ). lit_as (not before.running) (cut_told true (lit_course log s (not before.running) before.slots)) (is_some o)) some
      ∙ sym (ap cut_at_end (as-lit log before power))
