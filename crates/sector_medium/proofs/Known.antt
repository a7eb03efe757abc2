-- What is known of a disk by what was read behind its front, and what the adapter's calls make of it.
use Rattle.std.proofs.Common.{true, false, sym, ◌≡◌, ℕ, List, take, drop, Option, Some, None, option_map, IfSome, refl, ◌∙◌, ap, subst, arith}
use Rattle.std.specs.Prelude.{◌+◌, ◌≤◌, ◌-◌}
use Rattle.std.proofs.lemmas.Bool.Decides.{nat_tests}
use Rattle.std.proofs.lemmas.List.{take-take, drop-take}
use Rattle.tach_media.specs.Medium.{State, IsCoherent, Reads, HasCause, Unchanged, put, bytes_at}
use Rattle.tach_media.proofs.Runs.{broken_then}
use Rattle.sector_medium.specs.Disk.{Ends}
use Rattle.sector_medium.specs.Redo.{recovered, gate_of, is_gate, is_matched, is_pending, window, new_bytes, IsShut, IsOpen, IsAround}
use Rattle.sector_medium.specs.Recovered.{on_disk, IsKnown}
use Rattle.sector_medium.specs.declared.found.Redo.{Redo}
use Rattle.sector_medium.specs.declared.found.Found.{Found}
use Rattle.sector_medium.specs.declared.found.Found.TheVariants.{Unknown, Closed, Stale, Open}
use Rattle.sector_medium.proofs.Redos.{shut_pending, shut_front, open_front, pending_by}
use Rattle.sector_medium.proofs.Lifts.{lift_leaves}
use Rattle.sector_medium.proofs.Moves.{told_at, gate_around}

-- nothing was seen yet
pub known_unknown : (size : ℕ) (s : State) → IsKnown size Unknown s
known_unknown size s = record {
  awake = λ some. absurd (some refl);
  seen = λ d is. record { closed = λ no. absurd (cc); stale = λ no. absurd (cc); opened = λ p no. absurd (cc) };
  around = λ p no. absurd (cc);
}

-- the gate is shut
pub known_shut : (size : ℕ) (s : State) → s.works ≡ true → IfSome s.image (IsShut size) → IsKnown size Closed s
known_shut size s works shut = record {
  awake = λ some. works;
  seen = λ d is. record { closed = λ same. told_at s.image (IsShut size) d shut is; stale = λ no. absurd (cc); opened = λ p no. absurd (cc) };
  around = λ p no. absurd (cc);
}

-- the gate that was read names no border
pub known_closed : (size n : ℕ) (s : State) → s.works ≡ true → IfSome s.image (λ x. n ≡ gate_of size x) → is_gate size n ≡ false → IsKnown size Closed s
known_closed size n s works gate shut = record {
  awake = λ some. works;
  seen = λ d is. record {
    closed = λ same. ap (is_gate size) (sym (told_at s.image (λ x. n ≡ gate_of size x) d gate is)) ∙ shut;
    stale = λ no. absurd (cc);
    opened = λ p no. absurd (cc);
  };
  around = λ p no. absurd (cc);
}

unmatched : (size : ℕ) (c : List ℕ) → is_matched size c (window (gate_of size c)) ≡ false → is_pending size c ≡ false
unfolding is_pending
unmatched size c not = grind (arith, nat_tests)

-- around the border that the gate names stands something else
pub known_stale : (size n : ℕ) (s : State) → s.works ≡ true → IfSome s.image (λ x. n ≡ gate_of size x) → IfSome s.image (λ x. is_matched size x (window n) ≡ false) → IsKnown size Stale s
known_stale size n s works gate not = record {
  awake = λ some. works;
  seen = λ d is. record {
    closed = λ no. absurd (cc);
    stale = λ same. unmatched size d (ap (λ (k : ℕ). is_matched size d (window k)) (sym (told_at s.image (λ x. n ≡ gate_of size x) d gate is)) ∙ told_at s.image (λ x. is_matched size x (window n) ≡ false) d not is);
    opened = λ p no. absurd (cc);
  };
  around = λ p no. absurd (cc);
}

-- a record is to be done again
pub known_open : (size n : ℕ) (s : State) (p : Redo) → s.works ≡ true → is_gate size n ≡ true → p.place ≡ window n → IfSome s.image (λ x. n ≡ gate_of size x) → IfSome s.image (λ x. is_matched size x (window n) ≡ true)
    → IfSome s.image (λ x. p.bytes ≡ new_bytes size x) → IsKnown size (Open p) s
known_open size n s p works named here gate match bytes = record {
  awake = λ some. works;
  seen = λ d is. record {
    closed = λ no. absurd (cc);
    stale = λ no. absurd (cc);
    opened = λ q same.
        let one : q ≡ p = cc in
        let g : n ≡ gate_of size d = told_at s.image (λ x. n ≡ gate_of size x) d gate is in
        subst (λ (r : Redo). IsOpen size r.place r.bytes d) (sym one) (record {
          pending = pending_by size d (ap (is_gate size) (sym g) ∙ named) (ap (λ (k : ℕ). is_matched size d (window k)) (sym g) ∙ told_at s.image (λ x. is_matched size x (window n) ≡ true) d match is);
          here = here ∙ ap window g;
          these = told_at s.image (λ x. p.bytes ≡ new_bytes size x) d bytes is;
        });
  };
  around = λ q same. let one : q ≡ p = cc in subst (λ (r : Redo). IsAround size r.place) (sym one) (subst (IsAround size) (sym here) (gate_around size n named));
}

-- it is known still where the disk tells the same
pub known_still : (size : ℕ) (found : Found) (s t : State) → t.works ≡ true → t.image ≡ s.image → IsKnown size found s → IsKnown size found t
known_still size found s t works same known = record { awake = λ some. works; seen = λ d is. known.seen d (sym same ∙ is); around = known.around }

-- a part of the front, where nothing is to be done
pub front_part : (size place n : ℕ) (d : List ℕ) → place + n ≤ size → bytes_at (take size d) place n ≡ bytes_at d place n
front_part size place n d inside =
    ap (λ (k : ℕ). take n (drop place (take k d))) (omega (arith, inside)) ∙ ap (take n) (drop-take place (size - place) d) ∙ take-take n (size - place) (drop place d) (omega (arith, inside))

-- what a part of the memory is: the disk's, where nothing is to be done
pub part_stale : (size place n : ℕ) (d : List ℕ) → is_pending size d ≡ false → place + n ≤ size → bytes_at (recovered size d) place n ≡ bytes_at d place n
part_stale size place n d not inside = ap (λ (x : List ℕ). bytes_at x place n) (shut_front size d not) ∙ front_part size place n d inside

pub part_closed : (size place n : ℕ) (d : List ℕ) → IsShut size d → place + n ≤ size → bytes_at (recovered size d) place n ≡ bytes_at d place n
part_closed size place n d shut inside = part_stale size place n d (shut_pending size d shut) inside

-- and where one is, what it writes laid over that
pub part_open : (size place n q : ℕ) (w d : List ℕ) → IsOpen size q w d → place + n ≤ size → bytes_at (recovered size d) place n ≡ bytes_at (put q w d) place n
part_open size place n q w d opened inside =
    ap (λ (x : List ℕ). bytes_at x place n) (open_front size d opened.pending ∙ ap (λ (k : ℕ). take size (put k (new_bytes size d) d)) (sym opened.here) ∙ ap (λ (l : List ℕ). take size (put q l d)) (sym opened.these))
    ∙ front_part size place n (put q w d) inside

-- what is said of what is recovered of a told image
pub if_recovered : (size : ℕ) (o : Option (List ℕ)) (P : List ℕ → Type 0) → ((d : List ℕ) → o ≡ Some d → P (recovered size d)) → IfSome (option_map (recovered size) o) P
if_recovered size None P all = tt
if_recovered size (Some d) P all = all d refl

-- the end of a group, said of the memory
pub lift_ends : (size : ℕ) {old new : State} → IsCoherent old → Ends old new → Ends (on_disk size old) (on_disk size new)
lift_ends size whole ends = record {
  same = ap (option_map (recovered size)) ends.same;
  leaves = lift_leaves size Unchanged Unchanged whole ends.leaves (λ d c is none. absurd none);
  clock = ends.clock;
  works = ends.works;
  faults = ends.faults;
  breakdowns = ends.breakdowns;
  tells = record { later = ends.tells.later; told = ends.tells.told };
  settled = λ works low c left. ap (option_map (recovered size)) (ends.settled works low left.0 left.1) ∙ ap Some (sym left.2);
}

-- the cause of an answer Ok, at the end of a group
pub cause_end : {old mid new : State} → HasCause old mid false → Ends mid new → HasCause old new false
cause_end first ends = record {
  works = ends.works ∙ first.works;
  broken = first.broken;
  faults = omega (arith, first.faults, ends.faults);
  fault = λ f. absurd (cc);
  breakdowns = omega (arith, first.breakdowns, ends.breakdowns);
  breaks = λ was f. absurd (cc);
  unbroken = λ f. ends.breakdowns ∙ first.unbroken refl;
  already = λ was. ends.breakdowns ∙ first.already was;
  once = λ low. let same = first.unbroken refl in omega (arith, ends.breakdowns, same);
  tells = broken_then first.tells ends.tells;
}

-- what is said of a told image is said still after reads
pub told_still : {old new : State} (P : List ℕ → Type 0) → Reads old new false → IfSome old.image P → IfSome new.image P
told_still {old} {new} P reads told = subst (λ (o : Option (List ℕ)). IfSome o P) (sym (reads.same refl)) told
