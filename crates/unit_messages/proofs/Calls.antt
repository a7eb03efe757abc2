-- Calls that only read, one after the other, of which some may make none.
use Rattle.std.proofs.Common.{◌≡◌, ℕ, ◌≤◌, false, true, refl, ◌∙◌, sym, subst, inl, inr, ⊎_elim, Bool, arith}
use Rattle.tach_media.specs.Medium.{State, Unchanged, Reads, Rose}
use Rattle.tach_media.proofs.Runs.{starts, goes_same, broken_same, broken_then, reads_then}
use Rattle.gated_ring.specs.Loading.{MadeNoCall}
use Rattle.unit_minutes.specs.Reading.{ReadsIfAny}

pub no_call : (s : State) → ReadsIfAny s s false
no_call s = inl (refl, record { same = refl; leaves = starts s Unchanged; clock = refl; works = refl; faults = refl; breakdowns = refl; tells = broken_same s })

none_none : {old mid new : State} → MadeNoCall old mid → MadeNoCall mid new → MadeNoCall old new
none_none a b = record {
  same = b.same ∙ a.same;
  leaves = goes_same a.leaves b.leaves;
  clock = b.clock ∙ a.clock;
  works = b.works ∙ a.works;
  faults = b.faults ∙ a.faults;
  breakdowns = b.breakdowns ∙ a.breakdowns;
  tells = broken_then a.tells b.tells;
}

none_reads : {old mid new : State} {failed : Bool} → MadeNoCall old mid → Reads mid new failed → Reads old new failed
none_reads {old} {mid} {new} {failed} a b = record {
  same = λ f. b.same f ∙ a.same;
  leaves = goes_same a.leaves b.leaves;
  clock = b.clock ∙ a.clock;
  cause = record {
    works = b.cause.works;
    broken = λ was. b.cause.broken (a.works ∙ was);
    faults = subst (λ (n : ℕ). n ≤ new.faults) a.faults b.cause.faults;
    fault = λ f. subst (λ (n : ℕ). Rose n new.faults) a.faults (b.cause.fault f);
    breakdowns = subst (λ (n : ℕ). n ≤ new.breakdowns) a.breakdowns b.cause.breakdowns;
    breaks = λ was f. subst (λ (n : ℕ). Rose n new.breakdowns) a.breakdowns (b.cause.breaks (a.works ∙ was) f);
    unbroken = λ f. b.cause.unbroken f ∙ a.breakdowns;
    already = λ was. b.cause.already (a.works ∙ was) ∙ a.breakdowns;
    once = λ low. let few = b.cause.once low in let same = a.breakdowns in omega (arith, few, same);
    tells = broken_then a.tells b.cause.tells;
  };
}

reads_none : {old mid new : State} → Reads old mid false → MadeNoCall mid new → Reads old new false
reads_none {old} {mid} {new} a b = record {
  same = λ f. b.same ∙ a.same f;
  leaves = goes_same a.leaves b.leaves;
  clock = b.clock ∙ a.clock;
  cause = record {
    works = b.works ∙ a.cause.works;
    broken = a.cause.broken;
    faults = subst (λ (n : ℕ). old.faults ≤ n) (sym b.faults) a.cause.faults;
    fault = λ f. subst (λ (n : ℕ). Rose old.faults n) (sym b.faults) (a.cause.fault f);
    breakdowns = subst (λ (n : ℕ). old.breakdowns ≤ n) (sym b.breakdowns) a.cause.breakdowns;
    breaks = λ was f. subst (λ (n : ℕ). Rose old.breakdowns n) (sym b.breakdowns) (a.cause.breaks was f);
    unbroken = λ f. b.breakdowns ∙ a.cause.unbroken f;
    already = λ was. b.breakdowns ∙ a.cause.already was;
    once = λ low. let before = a.cause.unbroken refl in let same = b.breakdowns in omega (arith, before, same);
    tells = broken_then a.cause.tells b.tells;
  };
}

pub any_then : {old mid new : State} {failed : Bool} → ReadsIfAny old mid false → ReadsIfAny mid new failed → ReadsIfAny old new failed
any_then {old} {mid} {new} {failed} first next =
    ⊎_elim (λ none. ⊎_elim (λ after. inl (after.0, none_none none.1 after.1)) (λ reads. inr (none_reads none.1 reads)) next)
    (λ reads. ⊎_elim (λ after. inr (subst (λ (f : Bool). Reads old new f) (sym after.0) (reads_none reads after.1))) (λ more. inr (reads_then reads more)) next) first

-- some calls, and then others of which there may be none
pub reads_any : {old mid new : State} {failed : Bool} → Reads old mid false → ReadsIfAny mid new failed → Reads old new failed
reads_any {old} {mid} {new} {failed} first next =
    ⊎_elim (λ after. subst (λ (f : Bool). Reads old new f) (sym after.0) (reads_none first after.1)) (λ more. reads_then first more) next

-- a call that failed, by another name of that
pub any_failed : {old new : State} (f : Bool) → f ≡ true → ReadsIfAny old new true → ReadsIfAny old new f
any_failed {old} {new} f is reads = subst (λ (b : Bool). ReadsIfAny old new b) (sym is) reads
