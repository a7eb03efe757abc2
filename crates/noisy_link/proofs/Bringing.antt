-- What a packet brings the loader's end, by the code's tests.
use Rattle.std.proofs.Common.{◌≡◌, ◌∙◌, ℕ, ◌+◌, ◌<◌, Bool, true, false, List, [], ◌∷◌, Option, Some, None, Result, Err, refl, sym, ap, subst, arith, append-nil}
use Rattle.std.specs.Prelude.{◌==◌, ◌&&◌, nat_lt, is_none, is_some, option_map, if◌then◌else◌, not}
use Rattle.std.specs.Io.KnownBytes.{Appends}
use Rattle.std.proofs.lemmas.Bool.Decides.{nat_tests}
use Rattle.link_loader.specs.Loading.{Load, Takes}
use Rattle.link_loader.specs.declared.fault.LoadFault.{LoadFault}
use Rattle.noisy_model.specs.declared.packet.Packet.{Packet}
use Rattle.noisy_model.specs.Ends.{LoaderEnd, Taken, TakesBy, packet, no_number, brought}
use Rattle.noisy_link.specs.Sides.{asked, Loads, TakesPacket}

abbrev pub end_of : ℕ → Load → LoaderEnd Load
end_of number l = record { number = number; side = l }

is_lower : (m n : ℕ) → m < n → nat_lt m n ≡ true
is_lower m n low = grind (arith, nat_tests)

same_number : (m n : ℕ) → m ≡ n → (m == n) ≡ true
same_number m n same = grind (arith, nat_tests)

sends : (number : ℕ) (o : Option (List ℕ)) → nat_lt number no_number ≡ true → is_none o ≡ false → is_some (if nat_lt number no_number then option_map (λ frame. packet number (Some frame)) o else None) ≡ true
sends number None low asks = absurd (cc)
sends number (Some frame) low asks = ap (λ (b : Bool). is_some (if b then Some (packet number (Some frame)) else None)) low

-- the frame of a packet with the number now
pub brings : (number : ℕ) (l : Load) (p : Packet) (frame : List ℕ) → number < no_number → p.number ≡ number → is_none (asked l) ≡ false → p.frame ≡ Some frame → brought asked (end_of number l) p ≡ Some frame
brings number l p frame low same asks is =
    ap (λ (b : Bool). if b && p.number == number then p.frame else None) (sends number (asked l) (is_lower number no_number low) asks)
    ∙ ap (λ (b : Bool). if b then p.frame else None) (same_number p.number number same) ∙ is

some_asked : (o q : Option (List ℕ)) (b : Bool) → is_some o ≡ not b → b ≡ false → o ≡ q → is_none q ≡ false
some_asked o q b some off same = by q (sym (ap is_some same) ∙ some ∙ ap not off)
  where
    by : (q : Option (List ℕ)) → is_some q ≡ true → is_none q ≡ false
    by None is = absurd (cc)
    by (Some x) is = refl

-- by the code's tests
pub is_brought : (number : ℕ) (l : Load) (p : Packet) (frame : List ℕ) (o : Option (List ℕ)) (b : Bool) → number < no_number → p.number ≡ number → is_some o ≡ not b → b ≡ false → o ≡ asked l → p.frame ≡ Some frame → brought asked (end_of number l) p ≡ Some frame
is_brought number l p frame o b low same some off next is = brings number l p frame low same (some_asked o (asked l) b some off next) is

-- a refusal by its fault
pub err_fault : {T : Type 0} (e f : LoadFault) → ◌≡◌ {A = Result T LoadFault} (Err e) (Err f) → e ≡ f
err_fault e f is = cc

-- it is taken
pub takes_packet : (number : ℕ) (l new : Load) (p : Packet) (frame : List ℕ) (held sunk : Option (List ℕ)) → brought asked (end_of number l) p ≡ Some frame → (put : List ℕ) × Takes l.loading frame new.loading put × Appends held sunk put
    → TakesPacket (end_of number l) p (end_of (number + 1) new) true held sunk
takes_packet number l new p frame held sunk is taken =
    let one : Taken = record { frame = frame; put = taken.0 } in
    record {
      took = one ∷ [];
      takes = subst (λ (o : Option (List ℕ)). TakesBy Loads (end_of number l) o (end_of (number + 1) new) (one ∷ [])) (sym is) (taken.0, taken.1, refl, refl);
      puts = subst (λ (l : List ℕ). Appends held sunk l) (sym (append-nil taken.0)) taken.2;
      yes_is = refl;
    }
