-- What a run notes in the rings of its unit, as one second more comes; later lines of a log change no note of the seconds before.
use Rattle.std.proofs.Common.{◌≡◌, ℕ, ◌+◌, cond, not, ◌&&◌, is_some, List, [], ◌∷◌, ◌++◌, All, fold, refl, ap, sym, subst, ◌∙◌, append-nil}
use Rattle.std.specs.Prelude.{flat_map}
use Rattle.std.proofs.lemmas.Grind.{flat_map-append}
use Rattle.std.proofs.lemmas.List.Elements.{All-head, All-tail}
use Rattle.run_events.specs.activity_codec.declared.values.Slot.{Slot}
use Rattle.run_events.specs.activity_codec.declared.values.Slot.TheVariants.{Driver, CoDriver}
use Rattle.run_devices.specs.trace_model.declared.Action.{Action}
use Rattle.run_devices.specs.trace_model.declared.Action.TheVariants.{Select, Insert, Withdraw, Tear, Place, Manual}
use Rattle.run_devices.specs.trace_model.Trace.{TraceSecond}
use Rattle.run_devices.specs.log_model.Log.{RunLog, Phase, In}
use Rattle.run_devices.specs.log_model.Slots.{refusal}
use Rattle.run_devices.specs.log_model.Same.{SameAt}
use Rattle.run_devices.specs.log_model.Course.{Course, ToldSecond, Before, Moved, Went, slot_told, both_told, acted, all_acted, moved_by, unmoved, answered, fresh, begins, has_power, second_told, before_next, not_begun, went, went_on}
use Rattle.run_devices.specs.event_model.Events.{Seen}
use Rattle.run_devices.specs.note_model.Done.{CarriedOut, Done, carried_from, course_powered, done_by, done_from, done_of}
use Rattle.run_devices.specs.note_model.Noted.{Note, accepted_at, noted_by, noted_in, notes_of}
use Rattle.run_events.proofs.Later.{seen-by-same, told-number}
use Rattle.run_note_record.specs.Uses.{notes_in, noted_next}

flat-same : {X : Type 0} (f g : X → List Note) → ((x : X) → f x ≡ g x) → (xs : List X) → flat_map f xs ≡ flat_map g xs
flat-same f g each [] = refl
flat-same f g each (x ∷ xs) = λ i. each x i ++ flat-same f g each xs i

-- one second more
done-on : (log : RunLog) (ss : List TraceSecond) (s : TraceSecond) (before : Before) (v : Went) → v.before ≡ before → done_from log before (ss ++ s ∷ []) ≡ done_from log before ss ++ done_by log (fold (went_on log) v ss).before s ∷ []
done-on log [] s before v is = ap (λ (b : Before). done_by log b s ∷ []) (sym is)
done-on log (x ∷ ss) s before v is =
    ap (λ (l : List Done). done_by log before x ∷ l) (done-on log ss s (before_next before (second_told log before x)) (went_on log v x) (ap (λ (b : Before). before_next b (second_told log b x)) is))

module _ (log later : RunLog) where
  slot-same : (u : ℕ) → SameAt log later u → (p : Phase) (e : Moved) (slot : Slot) (c : Course) → slot_told later u p e slot c ≡ slot_told log u p e slot c
  slot-same u same p e slot c = rw (same.torn p slot) (rw (same.found p slot) refl)

  both-same : (u : ℕ) → SameAt log later u → (p : Phase) (e : Moved) (c : Course) → both_told later u p e c ≡ both_told log u p e c
  both-same u same p e c =
      slot-same u same p e CoDriver (slot_told later u p e Driver c) ∙ ap (slot_told log u p e CoDriver) (slot-same u same p e Driver c)

  pub acted-same : (s : TraceSecond) → SameAt log later s.number → (n : ℕ) (a : Action) (c : Course) → acted later s n a c ≡ acted log s n a c
  acted-same s same n a c =
      rw same.cut (rw (both-same s.number same (In (n + 1)) (moved_by n (refusal c.slots s.speed a) a c.slots) (answered n (refusal c.slots s.speed a) a c)) refl)

  all-same : (s : TraceSecond) → SameAt log later s.number → (n : ℕ) (acts : List Action) (c : Course) → all_acted later s n acts c ≡ all_acted log s n acts c
  all-same s same n [] c = refl
  all-same s same n (a ∷ acts) c = all-same s same (n + 1) acts (acted later s n a c) ∙ ap (all_acted log s (n + 1) acts) (acted-same s same n a c)

  carried-same : (s : TraceSecond) → SameAt log later s.number → (n : ℕ) (acts : List Action) (c : Course) → carried_from later s n acts c ≡ carried_from log s n acts c
  carried-same s same n [] c = refl
  carried-same s same n (a ∷ acts) c =
      let rest : carried_from later s (n + 1) acts (acted later s n a c) ≡ carried_from log s (n + 1) acts (acted log s n a c) =
      carried-same s same (n + 1) acts (acted later s n a c) ∙ ap (carried_from log s (n + 1) acts) (acted-same s same n a c) in
      λ i. cond (begins (same.cut i) n && not (is_some (refusal c.slots s.speed a))) (record { before = n; action = a; slots = c.slots; after = (acted-same s same n a c i).slots } ∷ []) [] ++ rest i

  pub second-same : (before : Before) (s : TraceSecond) → SameAt log later s.number → second_told later before s ≡ second_told log before s
  second-same before s same = ap (λ (x : Seen). x.told) (seen-by-same log later before s same)

  pub powered-same : (before : Before) (s : TraceSecond) → SameAt log later s.number → course_powered later before s ≡ course_powered log before s
  powered-same before s same = both-same s.number same (In 0) (unmoved (not before.running)) (fresh (not before.running) before.slots)

  done-by-same : (before : Before) (s : TraceSecond) → SameAt log later s.number → done_by later before s ≡ done_by log before s
  done-by-same before s same =
      let told : second_told later before s ≡ second_told log before s = second-same before s same in
      let powered : course_powered later before s ≡ course_powered log before s = powered-same before s same in
      let carried : carried_from later s 0 s.actions (course_powered later before s) ≡ carried_from log s 0 s.actions (course_powered log before s) =
      carried-same s same 0 s.actions (course_powered later before s) ∙ ap (carried_from log s 0 s.actions) powered in
      let acts : all_acted later s 0 s.actions (course_powered later before s) ≡ all_acted log s 0 s.actions (course_powered log before s) =
      all-same s same 0 s.actions (course_powered later before s) ∙ ap (all_acted log s 0 s.actions) powered in
      λ i. record {
        told = told i;
        powered = cond (has_power before s) (powered i).slots before.slots;
        carried = cond (has_power before s) (carried i) [];
        itself = cond (has_power before s) (acts i).slots before.slots;
      }

  noted-by-same : (u : ℕ) → SameAt log later u → (a : CarriedOut) (act : Action) → noted_by later u a act ≡ noted_by log u a act
  noted-by-same u same a (Select slot pick) = refl
  noted-by-same u same a (Insert slot card) = refl
  noted-by-same u same a (Withdraw slot) = rw (same.torn (In (a.before + 1)) slot) refl
  noted-by-same u same a (Tear slot) = refl
  noted-by-same u same a (Place slot ending country region) = refl
  noted-by-same u same a (Manual slot pick minute) = refl

  noted-in-same : (d : Done) → SameAt log later d.told.second.number → noted_in later d ≡ noted_in log d
  noted-in-same d same =
      ap (λ (l : List Note). accepted_at d (In 0) ++ l)
      (flat-same (λ a. noted_by later d.told.second.number a a.action ++ accepted_at d (In (a.before + 1))) (λ a. noted_by log d.told.second.number a a.action ++ accepted_at d (In (a.before + 1)))
      (λ a. ap (λ (l : List Note). l ++ accepted_at d (In (a.before + 1))) (noted-by-same d.told.second.number same a a.action)) d.carried)

  -- what a second notes that both tell alike
  pub second-alike : (before : Before) (s : TraceSecond) → SameAt log later s.number → noted_in later (done_by later before s) ≡ noted_in log (done_by log before s)
  second-alike before s same = ap (noted_in later) (done-by-same before s same) ∙ noted-in-same (done_by log before s) (subst (λ (u : ℕ). SameAt log later u) (sym (told-number log before s)) same)

  notes-going : (before : Before) (ss : List TraceSecond) → All (λ s. SameAt log later s.number) ss → flat_map (noted_in later) (done_from later before ss) ≡ flat_map (noted_in log) (done_from log before ss)
  notes-going before [] all = refl
  notes-going before (s ∷ ss) all =
      let same : SameAt log later s.number = All-head (λ (s : TraceSecond). SameAt log later s.number) s ss all in
      let here : noted_in later (done_by later before s) ≡ noted_in log (done_by log before s) = second-alike before s same in
      let rest : flat_map (noted_in later) (done_from later (before_next before (second_told later before s)) ss) ≡ flat_map (noted_in log) (done_from log (before_next before (second_told log before s)) ss) =
      notes-going (before_next before (second_told later before s)) ss (All-tail (λ (s : TraceSecond). SameAt log later s.number) s ss all)
      ∙ ap (λ (t : ToldSecond). flat_map (noted_in log) (done_from log (before_next before t) ss)) (second-same before s same) in
      λ i. here i ++ rest i

  -- SECONDS THAT BOTH TELL ALIKE note the same
  pub notes-alike : (ss : List TraceSecond) → All (λ x. SameAt log later x.number) ss → notes_in later ss ≡ notes_in log ss
  unfolding notes_of done_of
  notes-alike ss all = notes-going not_begun.before ss all

  -- A SECOND MORE
  pub second-notes : (ss : List TraceSecond) (s : TraceSecond) → All (λ x. SameAt log later x.number) ss → notes_in later (ss ++ s ∷ []) ≡ notes_in log ss ++ noted_next later ss s
  unfolding notes_of done_of went
  second-notes ss s all =
      ap (flat_map (noted_in later)) (done-on later ss s not_begun.before not_begun refl)
      ∙ flat_map-append (noted_in later) (done_from later not_begun.before ss) (done_by later (fold (went_on later) not_begun ss).before s ∷ [])
      ∙ (λ i. notes-going not_begun.before ss all i ++ append-nil (noted_in later (done_by later (fold (went_on later) not_begun ss).before s)) i)
