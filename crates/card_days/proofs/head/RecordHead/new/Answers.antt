use Rattle.std.proofs.Common.{ℕ, List, ◌++◌, take, drop, sym, ◌∙◌, ap, arith, length-drop}
use Rattle.std.proofs.lemmas.List.{take_all}
use Rattle.card_model.specs.Bytes.{two_bytes}
use Rattle.card_days.proofs.HeadLemmas.{in_pairs, date_halves}
use Rattle.card_days.proofs.head.RecordHead.new.Goals as goal

pub returns-clause-bytes : goal.returns-clause-bytes
returns-clause-bytes c =
    let b = c.args.bytes.now in
    let a1 = c.number_of.result in
    let a2 = c.number_of-2.result in
    let a3 = c.number_of-3.result in
    let a4 = c.number_of-4.result in
    let a5 = c.number_of-5.result in
    let a6 = c.number_of-6.result in
    ap (λ (l : List ℕ). two_bytes a1 ++ (two_bytes a2 ++ (l ++ (two_bytes a5 ++ two_bytes a6)))) (date_halves a3 a4 c.number_of-3.ensures.short c.number_of-4.ensures.short)
    ∙ sym (ap (λ (l : List ℕ). l ++ (take 2 (drop 2 b) ++ (take 2 (drop 4 b) ++ (take 2 (drop 6 b) ++ (take 2 (drop 8 b) ++ take 2 (drop 10 b)))))) c.number_of.ensures.spelled
    ∙ ap (λ (l : List ℕ). two_bytes a1 ++ (l ++ (take 2 (drop 4 b) ++ (take 2 (drop 6 b) ++ (take 2 (drop 8 b) ++ take 2 (drop 10 b)))))) c.number_of-2.ensures.spelled
    ∙ ap (λ (l : List ℕ). two_bytes a1 ++ (two_bytes a2 ++ (l ++ (take 2 (drop 6 b) ++ (take 2 (drop 8 b) ++ take 2 (drop 10 b)))))) c.number_of-3.ensures.spelled
    ∙ ap (λ (l : List ℕ). two_bytes a1 ++ (two_bytes a2 ++ (two_bytes a3 ++ (l ++ (take 2 (drop 8 b) ++ take 2 (drop 10 b)))))) c.number_of-4.ensures.spelled
    ∙ ap (λ (l : List ℕ). two_bytes a1 ++ (two_bytes a2 ++ (two_bytes a3 ++ (two_bytes a4 ++ (l ++ take 2 (drop 10 b)))))) c.number_of-5.ensures.spelled
    ∙ ap (λ (l : List ℕ). two_bytes a1 ++ (two_bytes a2 ++ (two_bytes a3 ++ (two_bytes a4 ++ (two_bytes a5 ++ l))))) c.number_of-6.ensures.spelled)
    ∙ ap (λ (l : List ℕ). take 2 b ++ (take 2 (drop 2 b) ++ (take 2 (drop 4 b) ++ (take 2 (drop 6 b) ++ (take 2 (drop 8 b) ++ l))))) (take_all 2 (drop 10 b) (omega (arith, c.requires, length-drop 10 b)))
    ∙ in_pairs b
