use Rattle.noisy_link.proofs.Whole.{first_messages, whole_file_out, is_taken, never_refused, is_answered}
use Rattle.noisy_link.proofs.laws.a_noisy_download_is_the_units_file.Goals as goal

pub returns-clause-messages : goal.returns-clause-messages
returns-clause-messages c = λ x load events w took image begins passes. first_messages x image load begins events w took passes

pub returns-clause-file : goal.returns-clause-file
returns-clause-file c = λ x load events w took image begins passes over. whole_file_out x image load begins events w took passes over

pub returns-clause-taken : goal.returns-clause-taken
returns-clause-taken c = λ x load events w took image begins passes place p frame is brings. is_taken x image load begins events w took passes place p frame is brings

pub returns-clause-never_refused : goal.returns-clause-never_refused
returns-clause-never_refused c = λ x load events w took image begins passes place p frame fault is brings of refused. never_refused x image load begins events w took passes place p frame fault is brings of refused

pub returns-clause-answered : goal.returns-clause-answered
returns-clause-answered c = λ x load events w took image begins passes place p request is new. is_answered x image load begins events w took passes place p request is new
