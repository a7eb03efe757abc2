-- Fronts of what goes to a sink.
use Rattle.std.proofs.Common.{◌≡◌, ◌∙◌, ℕ, List, ◌++◌, length, take, drop, Option, Some, None, ap, sym, subst, append_assoc}
use Rattle.std.proofs.Math.Seq.{take-append_seam}
use Rattle.std.proofs.lemmas.List.{take-append-drop}
use Rattle.std.specs.Io.KnownBytes.{Appends, Keeps}
use Rattle.std.proofs.KnownBytes.{Appends-trans}
use Rattle.tach_media.specs.Streams.{AppendsFront}

pub Appends-kept : (a b c : Option (List ℕ)) (bs : List ℕ) → Appends a b bs → Keeps b c → Appends a c bs
Appends-kept None b c bs p q = tt
Appends-kept (Some x) None c bs p q = absurd p
Appends-kept (Some x) (Some y) None bs p q = absurd q
Appends-kept (Some x) (Some y) (Some z) bs p q = q ∙ p

-- what went out is a front
pub front_of : (a b : Option (List ℕ)) (out rest all : List ℕ) → Appends a b out → out ++ rest ≡ all → AppendsFront a b all
front_of a b out rest all p whole = (length out, subst (λ (l : List ℕ). Appends a b l) (sym (take-append_seam out rest) ∙ ap (take (length out)) whole) p)

-- and with a front of the next message
pub front_cut : (a b c : Option (List ℕ)) (out next rest all : List ℕ) → Appends a b out → AppendsFront b c next → (out ++ next) ++ rest ≡ all → AppendsFront a c all
front_cut a b c out next rest all p front whole =
    let n = front.0 in
    front_of a c (out ++ take n next) (drop n next ++ rest) all (Appends-trans a b c out (take n next) p front.1)
    (append_assoc out (take n next) (drop n next ++ rest)
    ∙ ap (λ (l : List ℕ). out ++ l) (sym (append_assoc (take n next) (drop n next) rest) ∙ ap (λ (l : List ℕ). l ++ rest) (take-append-drop n next))
    ∙ sym (append_assoc out next rest) ∙ whole)
