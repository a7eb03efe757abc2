use Rattle.std.proofs.Common.{rules, ◌≡◌, ◌++◌, length, sym, ◌∙◌}
use Rattle.unit_notes.specs.Entries.{holder_fields, use_fields, insertion_bytes}
use Rattle.unit_notes.proofs.Fronts.{joined_append, number_behind}
use Rattle.unit_notes.proofs.insertion.write_insertion.Goals as goal

pub returns-clause-bytes : goal.returns-clause-bytes
unfolding insertion_bytes
returns-clause-bytes c = (λ t. c.write_holder.ensures.bytes t ++ c.write_use.ensures.bytes t) ∙ sym (joined_append (holder_fields c.args.v.now) (use_fields c.args.v.now))

pub returns-clause-time : goal.returns-clause-time
returns-clause-time c =
    let len : length c.write_holder.new.out ≡ 94 = search rules in
    number_behind c.write_holder.new.out c.write_use.new.out 94 len ∙ c.write_use.ensures.time
