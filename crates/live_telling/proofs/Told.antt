-- Writes behind writes.
use Rattle.std.proofs.Common.{◌≡◌, ◌∙◌, ℕ, ◌+◌, ◌-◌, ◌≤◌, List, [], ◌∷◌, ◌++◌, length, take, drop, refl, sym, ap, subst, append_assoc, append-nil, arith}
use Rattle.std.specs.Prelude.{Result, Ok, Err, OnErr}
use Rattle.std.proofs.lemmas.List.{take-take, take-append-drop, drop-take, take_all}
use Rattle.std.specs.declared.option.Option.{Option}
use Rattle.std.specs.declared.option.Option.TheVariants.{None, Some}
use Rattle.std.specs.Io.KnownBytes.{Appends}
use Rattle.std.proofs.KnownBytes.{Appends-trans}
use Rattle.live_telling.specs.Telling.{Clocks, Telling, TellsMore, HaveComeTo, NotBefore, IsTold, IsBegun, taken_by}

-- ---- parts of a line, one after another

-- the first n, and the next m
take-add : {T : Type 0} → (n m : ℕ) (xs : List T) → take (n + m) xs ≡ take n xs ++ take m (drop n xs)
take-add n m xs =
    let le : n ≤ n + m = omega arith in
    sym (take-append-drop n (take (n + m) xs)) ∙ rw (take-take n (n + m) xs le, drop-take n m xs) refl

-- the next m bytes were appended behind the first n
pub appends-next : (a b c : Option (List ℕ)) (bytes : List ℕ) (n m : ℕ) → Appends a b (take n bytes) → Appends b c (take m (take (length bytes - n) (drop n bytes))) → n + m ≤ length bytes → Appends a c (take (n + m) bytes)
appends-next a b c bytes n m first next fits =
    let le : m ≤ length bytes - n = omega arith in
    rw (take-add n m bytes) (Appends-trans a b c _ _ first (rw (take-take m (length bytes - n) (drop n bytes) le) at next))

-- ---- writes behind writes

pub told-none : (o : Option (List Telling)) → TellsMore o o []
told-none None = tt
told-none (Some tells) = sym (append-nil tells)

pub told-on : (a b c : Option (List Telling)) (tells more : List Telling) → TellsMore a b tells → TellsMore b c more → TellsMore a c (tells ++ more)
told-on None b c tells more p q = tt
told-on (Some x) None c tells more p q = absurd p
told-on (Some x) (Some y) None tells more p q = absurd q
told-on (Some x) (Some y) (Some z) tells more p q = q ∙ ap (λ (l : List Telling). l ++ more) p ∙ append_assoc x tells more

taken-more : (tells : List Telling) (tell : Telling) → taken_by (tells ++ tell ∷ []) ≡ taken_by tells ++ tell.took
taken-more [] tell = append-nil tell.took
taken-more (t ∷ tells) tell = ap (λ (l : List ℕ). t.took ++ l) (taken-more tells tell) ∙ sym (append_assoc t.took (taken_by tells) tell.took)

late-more : (since : Clocks) (tells : List Telling) (tell : Telling) → NotBefore since tells → HaveComeTo since tell.clocks → NotBefore since (tells ++ tell ∷ [])
late-more since [] tell all one = (one, tt)
late-more since (t ∷ tells) tell all one = (all.0, late-more since tells tell all.1 one)

-- THE FIRST n BYTES of a line are told by these writes, all of them beside these clocks
pub record Front (line : List ℕ) (n : ℕ) (clocks : Clocks) (before now : Option (List Telling)) : Type 0 where
  pub tells : List Telling
  pub more : TellsMore before now tells
  pub took : taken_by tells ≡ take n line
  pub late : (since : Clocks) → HaveComeTo since clocks → NotBefore since tells

pub front-none : (line : List ℕ) (clocks : Clocks) (o : Option (List Telling)) → Front line 0 clocks o o
front-none line clocks o = record { tells = []; more = told-none o; took = refl; late = λ since have. tt }

-- so many more, or none where the write failed
pub front-more : (line : List ℕ) (n m : ℕ) (clocks : Clocks) (a b c : Option (List Telling)) → Front line n clocks a b
    → TellsMore b c (record { took = take m (take (length line - n) (drop n line)); clocks = clocks } ∷ []) → n + m ≤ length line → Front line (n + m) clocks a c
front-more line n m clocks a b c f next fits =
    let tell : Telling = record { took = take m (take (length line - n) (drop n line)); clocks = clocks } in
    let le : m ≤ length line - n = omega (arith, fits) in
    record {
      tells = f.tells ++ tell ∷ [];
      more = told-on a b c f.tells (tell ∷ []) f.more next;
      took = taken-more f.tells tell ∙ ap (λ (l : List ℕ). l ++ take m (take (length line - n) (drop n line))) f.took
          ∙ ap (λ (l : List ℕ). take n line ++ l) (take-take m (length line - n) (drop n line) le) ∙ sym (take-add n m line);
      late = λ since have. late-more since f.tells tell (f.late since have) have;
    }

pub front-failed : (line : List ℕ) (n : ℕ) (clocks : Clocks) (a b c : Option (List Telling)) → Front line n clocks a b → TellsMore b c (record { took = []; clocks = clocks } ∷ []) → Front line n clocks a c
front-failed line n clocks a b c f next =
    let tell : Telling = record { took = []; clocks = clocks } in
    record {
      tells = f.tells ++ tell ∷ [];
      more = told-on a b c f.tells (tell ∷ []) f.more next;
      took = taken-more f.tells tell ∙ append-nil (taken_by f.tells) ∙ f.took;
      late = λ since have. late-more since f.tells tell (f.late since have) have;
    }

-- all of a line
pub front-told : (line : List ℕ) (n : ℕ) (clocks : Clocks) (a b : Option (List Telling)) (since : Clocks) → length line ≤ n → HaveComeTo since clocks → Front line n clocks a b
    → (tells : List Telling) × TellsMore a b tells × IsTold (record { text = line; since = since }) tells
front-told line n clocks a b since all have f = (f.tells, f.more, record { text = f.took ∙ take_all n line all; late = f.late since have })

-- or a front of it, where a write failed
pub front-begun : {T E : Type 0} (result : Result T E) (line : List ℕ) (n : ℕ) (clocks : Clocks) (a b c : Option (List Telling)) (since : Clocks) → HaveComeTo since clocks → Front line n clocks a b → TellsMore b c (record { took = []; clocks = clocks } ∷ [])
    → OnErr result ((tells : List Telling) × TellsMore a c tells × IsBegun (record { text = line; since = since }) tells)
front-begun (Ok x) line n clocks a b c since have f next = tt
front-begun (Err e) line n clocks a b c since have f next =
    let g = front-failed line n clocks a b c f next in
    (g.tells, g.more, record { behind = drop n line; text = ap (λ (l : List ℕ). l ++ drop n line) g.took ∙ take-append-drop n line; late = g.late since have })
