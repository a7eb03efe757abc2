-- What the lines that are told of a card that enters leave of the other moments of its second, and of the other slot.
use Rattle.std.proofs.Common.{◌≡◌, ◌∙◌, ℕ, suc, ◌≤◌, Bool, true, false, cond, nat_eq, ◌||◌, ◌&&◌, Option, Some, None, is_some, List, [], ◌∷◌, ◌++◌, refl, ap, sym, subst, arith, append-nil, append_assoc}
use Rattle.std.specs.List.{AllByRecursion}
use Rattle.std.proofs.lemmas.Bool.Decides.{nat_tests}
use Rattle.activity_codec.specs.declared.values.Slot.{Slot}
use Rattle.activity_codec.specs.declared.values.Slot.TheVariants.{Driver, CoDriver}
use Rattle.activity_codec.specs.Activity.{same_slot}
use Rattle.log_model.specs.declared.lines.Break.{Break}
use Rattle.log_model.specs.declared.lines.Find.{Find}
use Rattle.log_model.specs.declared.lines.Verdict.{Verdict}
use Rattle.log_model.specs.declared.lines.Verdict.TheVariants as verdict
use Rattle.log_model.specs.Causes.{second_of}
use Rattle.log_model.specs.Log.{RunLog, In, same_phase, phase_of, cut_in, tears_here, is_torn_in, found_in}
use Rattle.log_model.specs.Slots.{other_slot}
use Rattle.log_model.specs.Course.{begins}
use Rattle.run_acts.specs.run_course.Moments.{and_break, and_find, finds_here}
use Rattle.run_acts.proofs.run_course.Lookups.{break-more, find-more}
use Rattle.run_acts.proofs.run_note_record.Tearing.{and-none, slot-apart}
use Rattle.run_acts.specs.run_rings.Notes.{TellSameTo}
use Rattle.run_minutes.specs.Keeping.{tear_of}
use Rattle.run_insertion.specs.declared.lines.Entering.{Entering}
use Rattle.run_insertion.specs.Entering.{Ending, Unfit, Ahead, Fell, Unasked, Unnoted, Seated, Lost, find_of, finds_by, breaks_by}
use Rattle.recorder_with_cards.specs.JudgedRings.{TellsHere}
use Rattle.recorder_with_cards.proofs.EnteredAdds.{log_with}

-- LINES OF A CALL at this moment of a second, of a card in this slot: these verdicts are told of it there, and nothing else of the second is
pub record TellsOf (log later : RunLog) (u n : ℕ) (slot : Slot) (verdicts : List Verdict) : Type 0 where
  pub cut : cut_in later u ≡ cut_in log u
  pub torn : (k : ℕ) (s : Slot) → nat_eq n k ≡ false → is_torn_in later u (In k) s ≡ is_torn_in log u (In k) s
  pub found : (k : ℕ) (s : Slot) → nat_eq n k ≡ false → found_in later u (In k) s ≡ found_in log u (In k) s
  pub others : found_in later u (In n) (other_slot slot) ≡ found_in log u (In n) (other_slot slot)
  pub own : found_in later u (In n) slot ≡ found_in log u (In n) slot ++ verdicts

tells-nothing : (log : RunLog) (u n : ℕ) (slot : Slot) → TellsOf log log u n slot []
tells-nothing log u n slot = record {
  cut = refl;
  torn = λ k s apart. refl;
  found = λ k s apart. refl;
  others = refl;
  own = sym (append-nil (found_in log u (In n) slot));
}

tells-then : (a b c : RunLog) (u n : ℕ) (slot : Slot) (vs ws : List Verdict) → TellsOf a b u n slot vs → TellsOf b c u n slot ws → TellsOf a c u n slot (vs ++ ws)
tells-then a b c u n slot vs ws first next = record {
  cut = next.cut ∙ first.cut;
  torn = λ k s apart. next.torn k s apart ∙ first.torn k s apart;
  found = λ k s apart. next.found k s apart ∙ first.found k s apart;
  others = next.others ∙ first.others;
  own = next.own ∙ ap (λ (l : List Verdict). l ++ ws) first.own ∙ append_assoc (found_in a u (In n) slot) vs ws;
}

-- ---- a find

number-same : (n : ℕ) → nat_eq n n ≡ true
number-same n = grind (arith, nat_tests)

slot-same : (slot : Slot) → same_slot slot slot ≡ true
slot-same Driver = refl
slot-same CoDriver = refl

find-tells : (log : RunLog) (e : Entering) (v : Verdict) → TellsOf log (and_find log (find_of e v)) e.at.second e.at.begun e.slot (v ∷ [])
find-tells log e v =
    let f : Find = find_of e v in
    let seen = find-more log f e.at.second in
    let off : (k : ℕ) (s : Slot) → finds_here e.at.second (In k) s f ≡ false → found_in (and_find log f) e.at.second (In k) s ≡ found_in log e.at.second (In k) s =
    λ k s none. seen.found (In k) s ∙ ap (λ (b : Bool). found_in log e.at.second (In k) s ++ cond b (f.verdict ∷ []) []) none ∙ append-nil (found_in log e.at.second (In k) s) in
    record {
      cut = seen.cut;
      torn = λ k s apart. seen.torn (In k) s;
      found = λ k s apart. off k s (ap (λ (b : Bool). nat_eq e.at.second e.at.second && b && same_slot e.slot s) apart ∙ ap (λ (b : Bool). b && same_slot e.slot s) (and-none (nat_eq e.at.second e.at.second)));
      others = off e.at.begun (other_slot e.slot) ((λ i. nat_eq e.at.second e.at.second && nat_eq e.at.begun e.at.begun && slot-apart e.slot i) ∙ and-none (nat_eq e.at.second e.at.second && nat_eq e.at.begun e.at.begun));
      own = seen.found (In e.at.begun) e.slot
          ∙ ap (λ (b : Bool). found_in log e.at.second (In e.at.begun) e.slot ++ cond b (f.verdict ∷ []) [])
          (ap (λ (b : Bool). b && nat_eq e.at.begun e.at.begun && same_slot e.slot e.slot) (number-same e.at.second) ∙ ap (λ (b : Bool). true && b && same_slot e.slot e.slot) (number-same e.at.begun) ∙ ap (λ (b : Bool). true && true && b) (slot-same e.slot));
    }

-- ---- a tear

or-none : (q : Option ℕ) → cond (is_some q) q None ≡ q
or-none None = refl
or-none (Some n) = refl

or-false : (b : Bool) → (b || false) ≡ b
or-false true = refl
or-false false = refl

tear-tells : (log : RunLog) (e : Entering) → e.at.late ≡ false → TellsOf log (and_break log (tear_of e.slot e.at)) e.at.second e.at.begun e.slot []
tear-tells log e early =
    let b : Break = tear_of e.slot e.at in
    let seen = break-more log b e.at.second in
    let off : (k : ℕ) (s : Slot) → nat_eq e.at.begun k ≡ false → tears_here e.at.second (In k) s b ≡ false =
    λ k s apart.
    ap (λ (l : Bool). nat_eq e.at.second e.at.second && same_phase (phase_of e.at.begun l) (In k) && same_slot e.slot s) early
    ∙ ap (λ (c : Bool). nat_eq e.at.second e.at.second && c && same_slot e.slot s) apart
    ∙ ap (λ (c : Bool). c && same_slot e.slot s) (and-none (nat_eq e.at.second e.at.second)) in
    record {
      cut = seen.cut ∙ or-none (cut_in log e.at.second);
      torn = λ k s apart. seen.torn (In k) s ∙ ap (λ (c : Bool). is_torn_in log e.at.second (In k) s || c) (off k s apart) ∙ or-false (is_torn_in log e.at.second (In k) s);
      found = λ k s apart. seen.found (In k) s;
      others = seen.found (In e.at.begun) (other_slot e.slot);
      own = seen.found (In e.at.begun) e.slot ∙ sym (append-nil (found_in log e.at.second (In e.at.begun) e.slot));
    }

-- ---- by what became of the card

-- what is found of it
abbrev pub verdicts_of : Ending → Entering → List Verdict
verdicts_of (Unfit fid place) e = verdict.NotValid fid place ∷ []
verdicts_of (Ahead stored) e = verdict.TimeOverlap stored e.at.second ∷ []
verdicts_of Fell e = []
verdicts_of Unasked e = []
verdicts_of (Unnoted entered clock) e = verdict.Accepted entered.replayed ∷ []
verdicts_of (Seated entered clock entry) e = verdict.Accepted entered.replayed ∷ []
verdicts_of (Lost entered clock entry) e = verdict.Accepted entered.replayed ∷ []

-- its find alone
found-alone : (log : RunLog) (e : Entering) (v : Verdict) → TellsOf log (record log { breaks = log.breaks ++ []; finds = log.finds ++ find_of e v ∷ [] }) e.at.second e.at.begun e.slot (v ∷ [])
found-alone log e v = subst (λ (bs : List Break). TellsOf log (record log { breaks = bs; finds = log.finds ++ find_of e v ∷ [] }) e.at.second e.at.begun e.slot (v ∷ [])) (sym (append-nil log.breaks)) (find-tells log e v)

pub ending-tells : (ending : Ending) (e : Entering) (log : RunLog) → e.at.late ≡ false → TellsOf log (log_with ending e log) e.at.second e.at.begun e.slot (verdicts_of ending e)
ending-tells (Unfit fid place) e log early = found-alone log e (verdict.NotValid fid place)
ending-tells (Ahead stored) e log early = found-alone log e (verdict.TimeOverlap stored e.at.second)
ending-tells Fell e log early =
    subst (λ (fs : List Find). TellsOf log (record log { breaks = log.breaks ++ tear_of e.slot e.at ∷ []; finds = fs }) e.at.second e.at.begun e.slot []) (sym (append-nil log.finds)) (tear-tells log e early)
ending-tells Unasked e log early =
    subst (λ (bs : List Break). TellsOf log (record log { breaks = bs; finds = log.finds ++ [] }) e.at.second e.at.begun e.slot []) (sym (append-nil log.breaks))
    (subst (λ (fs : List Find). TellsOf log (record log { finds = fs }) e.at.second e.at.begun e.slot []) (sym (append-nil log.finds)) (tells-nothing log e.at.second e.at.begun e.slot))
ending-tells (Unnoted entered clock) e log early = found-alone log e (verdict.Accepted entered.replayed)
ending-tells (Seated entered clock entry) e log early = found-alone log e (verdict.Accepted entered.replayed)
ending-tells (Lost entered clock entry) e log early =
    let f : Find = find_of e (verdict.Accepted entered.replayed) in
    tells-then log (and_find log f) (and_break (and_find log f) (tear_of e.slot e.at)) e.at.second e.at.begun e.slot (verdict.Accepted entered.replayed ∷ []) [] (find-tells log e (verdict.Accepted entered.replayed)) (tear-tells (and_find log f) e early)

-- ---- all of them are of this second

breaks-here : (ending : Ending) (e : Entering) → AllByRecursion (λ (b : Break). second_of b ≡ e.at.second) (breaks_by ending e)
breaks-here (Unfit fid place) e = tt
breaks-here (Ahead stored) e = tt
breaks-here Fell e = (refl, tt)
breaks-here Unasked e = tt
breaks-here (Unnoted entered clock) e = tt
breaks-here (Seated entered clock entry) e = tt
breaks-here (Lost entered clock entry) e = (refl, tt)

finds-here_ : (ending : Ending) (e : Entering) → AllByRecursion (λ (f : Find). f.second ≡ e.at.second) (finds_by ending e)
finds-here_ (Unfit fid place) e = (refl, tt)
finds-here_ (Ahead stored) e = (refl, tt)
finds-here_ Fell e = tt
finds-here_ Unasked e = tt
finds-here_ (Unnoted entered clock) e = (refl, tt)
finds-here_ (Seated entered clock entry) e = (refl, tt)
finds-here_ (Lost entered clock entry) e = (refl, tt)

pub ending-here : (ending : Ending) (e : Entering) (log : RunLog) → TellsHere log (log_with ending e log) e.at.second
ending-here ending e log = record { breaks = (breaks_by ending e, refl, breaks-here ending e); finds = (finds_by ending e, refl, finds-here_ ending e) }

-- ---- nothing is told of earlier moments

earlier : (m k : ℕ) → k ≤ m → nat_eq (suc m) k ≡ false
earlier m k le = grind (arith, nat_tests)

pub tells-same : (log later : RunLog) (u m : ℕ) (slot : Slot) (vs : List Verdict) → cut_in log u ≡ None → TellsOf log later u (suc m) slot vs → TellSameTo log later u m
tells-same log later u m slot vs uncut t = record {
  begun = λ k lt. ap (λ (c : Option ℕ). begins c k) uncut;
  begun_later = λ k lt. ap (λ (c : Option ℕ). begins c k) (t.cut ∙ uncut);
  torn = λ k s le. t.torn k s (earlier m k le);
  found = λ k s le. t.found k s (earlier m k le);
}
