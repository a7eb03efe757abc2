use Rattle.std.proofs.Common.{arith, map, string_bytes, length, sym, ◌∙◌, ap}
use Rattle.std.proofs.lemmas.List.{length-map}
use Rattle.outside_files.specs.Names.{is_name}
use Rattle.outside_files.proofs.NameLemmas.{text_there, none_yet, one_other, one_name, all_words}
use Rattle.outside_files.proofs.names.words_before_names.Goals as goal
use Rattle.outside_files.proofs.names.words_before_names.Goals.{then-not-is_name, else-not-is_name}

pub loop-i-init : goal.loop-i-init
loop-i-init c = none_yet (map string_bytes c.args.words.now)

pub loop-i-preserved : goal.loop-i-preserved
loop-i-preserved c =
    let here = text_there c.args.words.now c.loop-i.i c.index-words-i.result (omega arith) c.index-words-i.is in
    let told = sym (ap is_name c.as_str.ensures.value) ∙ sym c.is_name.ensures in
    elim c.if-not-is_name.branch [
      | then-not-is_name w ↦ rw w.before-is (one_other _ c.loop-i.before c.loop-i.i _ here (told ∙ w.if-not-is_name.true) c.loop-i.invariant)
      | else-not-is_name w ↦ rw w.before-is (one_name _ c.loop-i.before c.loop-i.i _ here (told ∙ w.if-not-is_name.false) c.loop-i.invariant)
    ]

pub returns-clause-names : goal.returns-clause-names
returns-clause-names c =
    let long = length-map c.args.words.now string_bytes in
    all_words (map string_bytes c.args.words.now) c.loop-i.before c.loop-i.i (omega (arith, long)) (omega (arith, long)) c.loop-i.invariant

pub returns-clause-inside : goal.returns-clause-inside
returns-clause-inside c = omega (arith, c.loop-i.invariant.there)
