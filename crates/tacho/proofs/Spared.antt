-- What a form that reads a file leaves as it was.
use Rattle.std.proofs.Common.{◌≡◌, ◌⊎◌, List, ℕ, Option, Some, None, inl, inr, refl, sym, subst}
use Rattle.std.specs.Prelude.{Result, Ok, Err, IfErr}
use Rattle.std.specs.Io.KnownBytes.{Keeps}
use Rattle.tacho.specs.declared.end.Fault.{Fault}
use Rattle.tacho.specs.declared.end.Fault.TheVariants.{Done, TooLong, ReadFault, WriteFault, BadFile}
use Rattle.tacho.specs.declared.forms.Form.TheVariants.{Read}
use Rattle.tacho.specs.declared.forms.Reading.{Reading}
use Rattle.tacho.specs.declared.forms.Reading.TheVariants.{View, ByHand, Match, MatchAll, Totals, Chart, Speeds, Show}
use Rattle.tacho.specs.End.{end_of}
use Rattle.tacho.specs.Read.{MayStopWithin}
use Rattle.tacho.specs.Program.{ReadsFirst, EndsBefore, Spares}

-- of what is made whole first a front is printed at a write fault alone
stops : (reading : Reading) (fault : Fault) → ReadsFirst (Some (Read reading)) → (fault ≡ WriteFault → ⊥) → MayStopWithin reading fault → ⊥
stops (Show last) fault first write may = first
stops (View last) WriteFault first write may = write refl
stops (View last) _ first write may = may
stops ByHand WriteFault first write may = write refl
stops ByHand _ first write may = may
stops Match WriteFault first write may = write refl
stops Match _ first write may = may
stops MatchAll WriteFault first write may = write refl
stops MatchAll _ first write may = may
stops (Totals last) WriteFault first write may = write refl
stops (Totals last) _ first write may = may
stops (Chart last) WriteFault first write may = write refl
stops (Chart last) _ first write may = may
stops (Speeds last) WriteFault first write may = write refl
stops (Speeds last) _ first write may = may

unprinted-first : {T : Type 0} (reading : Reading) (r : Result T Fault) (sink : Type 0) → IfErr r (λ fault. (MayStopWithin reading fault → ⊥) → sink)
    → ReadsFirst (Some (Read reading)) → (end_of r ≡ Done → ⊥) → (end_of r ≡ WriteFault → ⊥) → sink
unprinted-first reading (Ok u) sink nothing first done write = absurd (done refl)
unprinted-first reading (Err fault) sink nothing first done write = nothing (stops reading fault first write)

-- before its file was judged `show` printed nothing
unprinted-before : {T : Type 0} (reading : Reading) (r : Result T Fault) (sink : Type 0) → IfErr r (λ fault. (MayStopWithin reading fault → ⊥) → sink) → EndsBefore (Some (Read reading)) (end_of r) → sink
unprinted-before (Show last) (Ok u) sink nothing before = absurd before
unprinted-before (Show last) (Err ReadFault) sink nothing before = nothing (λ may. may)
unprinted-before (Show last) (Err (TooLong n)) sink nothing before = nothing (λ may. may)
unprinted-before (Show last) (Err (BadFile place)) sink nothing before = nothing (λ may. may)
unprinted-before (Show last) (Err _) sink nothing before = absurd before
unprinted-before (View last) r sink nothing before = absurd before
unprinted-before ByHand r sink nothing before = absurd before
unprinted-before Match r sink nothing before = absurd before
unprinted-before MatchAll r sink nothing before = absurd before
unprinted-before (Totals last) r sink nothing before = absurd before
unprinted-before (Chart last) r sink nothing before = absurd before
unprinted-before (Speeds last) r sink nothing before = absurd before

pub reading-spares : {T for_unit source sink unit card_a card_b : Type 0} (reading : Reading) (r : Result T Fault) → unit → card_a → card_b
    → IfErr r (λ fault. (MayStopWithin reading fault → ⊥) → sink) → Spares (Some (Read reading)) (end_of r) for_unit source sink unit card_a card_b
reading-spares {sink = sink} reading r u a b nothing = record {
  others = (u, a, b);
  cards = λ is. absurd (cc);
  before = λ first is. (u, a, b);
  nothing = unprinted-first reading r sink nothing;
  unprinted = unprinted-before reading r sink nothing;
}

-- a sink that is as it was holds what it held
same-held : (held : Option (List ℕ)) → Keeps held held
same-held None = tt
same-held (Some xs) = refl

pub kept-or : (held sunk : Option (List ℕ)) (Same Front : Type 0) → (Same → sunk ≡ held) → Same ⊎ Front → Keeps held sunk ⊎ Front
kept-or held sunk Same Front of_same (inl same) = inl (subst (λ (o : Option (List ℕ)). Keeps held o) (sym (of_same same)) (same-held held))
kept-or held sunk Same Front of_same (inr front) = inr front
