-- Reports that are told, one behind the other.
use Rattle.std.proofs.Common.{◌≡◌, ◌∙◌, inl, inr, ℕ, suc, ◌+◌, List, [], ◌∷◌, ◌++◌, length, take, refl, ap, sym, subst, append-nil, append_assoc, arith}
use Rattle.std.specs.Prelude.{Result, Ok, Err, OnOk, OnErr}
use Rattle.std.proofs.lemmas.Grind.{flat_map-append}
use Rattle.std.specs.declared.option.Option.{Option}
use Rattle.std.specs.Io.KnownBytes.{Appends}
use Rattle.std.proofs.KnownBytes.{Appends-nil, Appends-trans}
use Rattle.tach_media.specs.Streams.{AppendsFront}
use Rattle.live_telling.specs.Telling.{AreTold, AreToldUpTo, Clocks, HaveComeTo, IsBegun, IsTold, Line, Telling, TellsLines, TellsMore}
use Rattle.live_telling.specs.InTime.{text_of}
use Rattle.live_telling.proofs.Told.{told-none, told-on}
use Rattle.live_lines.specs.Texts.{IsReportText}
use Rattle.live_lines.specs.Reports.{AreLinesOf, MayBeTold, TellsFirst, TellsReports, since_of}
use Rattle.live_lines.specs.declared.report.Report.{Report}

-- ---- lines behind lines

lines-append : (rs qs : List Report) (lines more : List Line) → AreLinesOf rs lines → AreLinesOf qs more → AreLinesOf (rs ++ qs) (lines ++ more)
lines-append [] qs lines more are next = subst (λ (ls : List Line). AreLinesOf qs (ls ++ more)) (sym are) next
lines-append (r ∷ rs) qs lines more are next = (are.0, are.1 ++ more, ap (λ (ls : List Line). ls ++ more) are.2, are.3, lines-append rs qs are.1 more are.4 next)

text-append : (xs ys : List Line) → text_of (xs ++ ys) ≡ text_of xs ++ text_of ys
text-append xs ys = flat_map-append (λ (l : Line). l.text) xs ys

may-first : (rs qs : List Report) (now : Clocks) → MayBeTold (rs ++ qs) now → MayBeTold rs now
may-first [] qs now may = tt
may-first (r ∷ rs) qs now may = (may.0, may-first rs qs now may.1)

may-next : (rs qs : List Report) (now : Clocks) → MayBeTold (rs ++ qs) now → MayBeTold qs now
may-next [] qs now may = may
may-next (r ∷ rs) qs now may = may-next rs qs now may.1

told-append : (xs ys : List Line) (t u : List Telling) → AreTold xs t → AreTold ys u → AreTold (xs ++ ys) (t ++ u)
told-append [] ys t u first next = subst (λ (l : List Telling). AreTold ys (l ++ u)) (sym first) next
told-append (x ∷ xs) ys t u first next =
    (first.0, first.1 ++ u, ap (λ (l : List Telling). l ++ u) first.2 ∙ append_assoc first.0 first.1 u, first.3, told-append xs ys first.1 u first.4 next)

begun-append : (xs ys : List Line) (t u : List Telling) → AreTold xs t → AreToldUpTo ys u → AreToldUpTo (xs ++ ys) (t ++ u)
begun-append [] ys t u first next = subst (λ (l : List Telling). AreToldUpTo ys (l ++ u)) (sym first) next
begun-append (x ∷ xs) ys t u first next =
    inr (first.0, first.1 ++ u, ap (λ (l : List Telling). l ++ u) first.2 ∙ append_assoc first.0 first.1 u, first.3, begun-append xs ys first.1 u first.4 next)

take-over : {T : Type 0} (n : ℕ) (xs ys : List T) → take (length xs + n) (xs ++ ys) ≡ xs ++ take n ys
take-over {T} n [] ys = ap (λ (k : ℕ). take k ys) (omega arith)
take-over {T} n (x ∷ xs) ys =
    let more : length (x ∷ xs) + n ≡ suc (length xs + n) = omega arith in
    ap (λ (k : ℕ). take k (x ∷ (xs ++ ys))) more ∙ ap (λ (l : List T). x ∷ l) (take-over n xs ys)

front-behind : (a b c : Option (List ℕ)) (xs ys : List ℕ) → Appends a b xs → AppendsFront b c ys → AppendsFront a c (xs ++ ys)
front-behind a b c xs ys first next =
    (length xs + next.0, subst (λ (l : List ℕ). Appends a c l) (sym (take-over next.0 xs ys)) (Appends-trans a b c xs (take next.0 ys) first next.1))

-- ---- one report

abbrev line_of : Report → List ℕ → Line
line_of report text = record { text = text; since = since_of report }

pub one-told : {E : Type 0} (result : Result (Unit {0}) E) (report : Report) (text : List ℕ) (clocks : Clocks) (a b : Option (List ℕ)) (p q : Option (List Telling)) → IsReportText report text → OnOk result (Appends a b text)
    → ((since : Clocks) → HaveComeTo since clocks → OnOk result ((tells : List Telling) × TellsMore p q tells × IsTold (record { text = text; since = since }) tells))
    → OnOk result (TellsReports (report ∷ []) clocks a b p q)
one-told (Err e) report text clocks a b p q is out told = tt
one-told (Ok x) report text clocks a b p q is out told = record {
  lines = line_of report text ∷ [];
  are = (line_of report text, [], refl, (is, refl), refl);
  out = subst (λ (l : List ℕ). Appends a b l) (sym (append-nil text)) out;
  late = λ may. let t = told (since_of report) may.0 in record { tells = t.0; more = t.1; told = (t.0, [], sym (append-nil t.0), t.2, refl) };
}

pub one-begun : {E : Type 0} (result : Result (Unit {0}) E) (report : Report) (text : List ℕ) (clocks : Clocks) (a b : Option (List ℕ)) (p q : Option (List Telling)) → IsReportText report text → OnErr result (AppendsFront a b text)
    → ((since : Clocks) → HaveComeTo since clocks → OnErr result ((tells : List Telling) × TellsMore p q tells × IsBegun (record { text = text; since = since }) tells))
    → OnErr result (TellsFirst (report ∷ []) clocks a b p q)
one-begun (Ok x) report text clocks a b p q is out begun = tt
one-begun (Err e) report text clocks a b p q is out begun = record {
  first = [];
  next = report;
  rest = [];
  parts = refl;
  lines = line_of report text ∷ [];
  are = (line_of report text, [], refl, (is, refl), refl);
  out = subst (λ (l : List ℕ). AppendsFront a b l) (sym (append-nil text)) out;
  late = λ may. let t = begun (since_of report) may.0 in (t.0, t.1, inl t.2);
}

-- ---- reports behind reports

pub tells-none : (clocks : Clocks) (a : Option (List ℕ)) (p : Option (List Telling)) → TellsReports [] clocks a a p p
tells-none clocks a p = record { lines = []; are = refl; out = Appends-nil a; late = λ may. record { tells = []; more = told-none p; told = refl } }

pub tells-then : (rs qs : List Report) (clocks : Clocks) (a b c : Option (List ℕ)) (p q r : Option (List Telling)) → TellsReports rs clocks a b p q → TellsReports qs clocks b c q r → TellsReports (rs ++ qs) clocks a c p r
tells-then rs qs clocks a b c p q r first next = record {
  lines = first.lines ++ next.lines;
  are = lines-append rs qs first.lines next.lines first.are next.are;
  out = subst (λ (l : List ℕ). Appends a c l) (sym (text-append first.lines next.lines)) (Appends-trans a b c (text_of first.lines) (text_of next.lines) first.out next.out);
  late = λ may.
      let one = first.late (may-first rs qs clocks may) in
      let two = next.late (may-next rs qs clocks may) in
      record { tells = one.tells ++ two.tells; more = told-on p q r one.tells two.tells one.more two.more; told = told-append first.lines next.lines one.tells two.tells one.told two.told };
}

pub first-then : (rs qs : List Report) (clocks : Clocks) (a b c : Option (List ℕ)) (p q r : Option (List Telling)) → TellsReports rs clocks a b p q → TellsFirst qs clocks b c q r → TellsFirst (rs ++ qs) clocks a c p r
first-then rs qs clocks a b c p q r first next = record {
  first = rs ++ next.first;
  next = next.next;
  rest = next.rest;
  parts = ap (λ (l : List Report). rs ++ l) next.parts ∙ sym (append_assoc rs next.first (next.next ∷ next.rest));
  lines = first.lines ++ next.lines;
  are = subst (λ (l : List Report). AreLinesOf l (first.lines ++ next.lines)) (sym (append_assoc rs next.first (next.next ∷ []))) (lines-append rs (next.first ++ next.next ∷ []) first.lines next.lines first.are next.are);
  out = subst (λ (l : List ℕ). AppendsFront a c l) (sym (text-append first.lines next.lines)) (front-behind a b c (text_of first.lines) (text_of next.lines) first.out next.out);
  late = λ may.
      let one = first.late (may-first rs qs clocks may) in
      let two = next.late (may-next rs qs clocks may) in
      (one.tells ++ two.0, told-on p q r one.tells two.0 one.more two.1, begun-append first.lines next.lines one.tells two.0 one.told two.2);
}

-- more would have been told behind them
pub first-of-more : (rs qs : List Report) (clocks : Clocks) (a b : Option (List ℕ)) (p q : Option (List Telling)) → TellsFirst rs clocks a b p q → TellsFirst (rs ++ qs) clocks a b p q
first-of-more rs qs clocks a b p q h = record {
  first = h.first;
  next = h.next;
  rest = h.rest ++ qs;
  parts = ap (λ (l : List Report). l ++ qs) h.parts ∙ append_assoc h.first (h.next ∷ h.rest) qs;
  lines = h.lines;
  are = h.are;
  out = h.out;
  late = λ may. h.late (may-first rs qs clocks may);
}

-- where a call failed
pub on-err : {T E P : Type 0} (result : Result T E) → P → OnErr result P
on-err (Ok x) h = tt
on-err (Err e) h = h
