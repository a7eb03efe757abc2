-- A run goes on: one second more is one step more, and lines of the log that come later change no earlier second.
use Rattle.std.proofs.Common.{◌≡◌, ℕ, ◌+◌, Bool, false, List, [], ◌∷◌, ◌++◌, All, refl, ap, ◌∙◌, not, is_some, fold}
use Rattle.std.proofs.lemmas.List.Sums.{fold-append}
use Rattle.std.proofs.lemmas.List.Elements.{All-head, All-tail}
use Rattle.activity_codec.specs.declared.values.Slot.{Slot}
use Rattle.activity_codec.specs.declared.values.Slot.TheVariants.{Driver, CoDriver}
use Rattle.trace_model.specs.declared.Action.{Action}
use Rattle.trace_model.specs.Trace.{TraceSecond}
use Rattle.log_model.specs.Log.{RunLog, Phase, In, Keeping, cut_in}
use Rattle.log_model.specs.Course.{Course, ToldSecond, Went, Before, slot_told, both_told, acted, all_acted, went_on, went, not_begun, Moved, moved_by, unmoved, answered, fresh, cut_told, lit_course, second_told, before_next}
use Rattle.log_model.specs.Slots.{Slots, refusal}
use Rattle.log_model.specs.Same.{SameAt}

-- one second more is one step more
pub went-more : (log : RunLog) (ss : List TraceSecond) (s : TraceSecond) → went log (ss ++ s ∷ []) ≡ went_on log (went log ss) s
unfolding went
went-more log ss s = fold-append (went_on log) not_begun ss (s ∷ [])

module _ (log later : RunLog) where
  slot-same : (u : ℕ) → SameAt log later u → (p : Phase) (e : Moved) (slot : Slot) (c : Course) → slot_told later u p e slot c ≡ slot_told log u p e slot c
  slot-same u same p e slot c = rw (same.torn p slot) (rw (same.found p slot) refl)

  both-same : (u : ℕ) → SameAt log later u → (p : Phase) (e : Moved) (c : Course) → both_told later u p e c ≡ both_told log u p e c
  both-same u same p e c =
      slot-same u same p e CoDriver (slot_told later u p e Driver c) ∙ ap (slot_told log u p e CoDriver) (slot-same u same p e Driver c)

  acted-same : (s : TraceSecond) → SameAt log later s.number → (n : ℕ) (a : Action) (c : Course) → acted later s n a c ≡ acted log s n a c
  acted-same s same n a c =
      rw same.cut (rw (both-same s.number same (In (n + 1)) (moved_by n (refusal c.slots s.speed a) a c.slots) (answered n (refusal c.slots s.speed a) a c)) refl)

  all-same : (s : TraceSecond) → SameAt log later s.number → (n : ℕ) (acts : List Action) (c : Course) → all_acted later s n acts c ≡ all_acted log s n acts c
  all-same s same n [] c = refl
  all-same s same n (a ∷ acts) c = all-same s same (n + 1) acts (acted later s n a c) ∙ ap (all_acted log s (n + 1) acts) (acted-same s same n a c)

  lit-same : (s : TraceSecond) → SameAt log later s.number → (starts : Bool) (slots : Slots) → lit_course later s starts slots ≡ lit_course log s starts slots
  lit-same s same starts slots =
      let begun = both-same s.number same (In 0) (unmoved starts) (fresh starts slots) in
      let done = all-same s same 0 s.actions (both_told later s.number (In 0) (unmoved starts) (fresh starts slots)) ∙ ap (all_acted log s 0 s.actions) begun in
      let kept = both-same s.number same Keeping (unmoved false) (all_acted later s 0 s.actions (both_told later s.number (In 0) (unmoved starts) (fresh starts slots))) ∙ ap (both_told log s.number Keeping (unmoved false)) done in
      rw same.cut (ap (cut_told (is_some (cut_in log s.number))) kept)

  second-same : (before : Before) (s : TraceSecond) → SameAt log later s.number → second_told later before s ≡ second_told log before s
  second-same before s same = rw (lit-same s same (not before.running) before.slots) (rw same.cut refl)

  -- logs that tell the same of these seconds give the same course
  pub went-same : (ss : List TraceSecond) → All (λ s. SameAt log later s.number) ss → went later ss ≡ went log ss
  unfolding went
  went-same ss same = going not_begun ss same
    where
      going : (w : Went) (ss : List TraceSecond) → All (λ s. SameAt log later s.number) ss → fold (went_on later) w ss ≡ fold (went_on log) w ss
      going w [] same = refl
      going w (s ∷ ss) same =
          ap (λ (t : ToldSecond). fold (went_on later) (record { told = w.told ++ t ∷ []; before = before_next w.before t }) ss) (second-same w.before s (All-head (λ (s : TraceSecond). SameAt log later s.number) s ss same))
          ∙ going (went_on log w s) ss (All-tail (λ (s : TraceSecond). SameAt log later s.number) s ss same)
