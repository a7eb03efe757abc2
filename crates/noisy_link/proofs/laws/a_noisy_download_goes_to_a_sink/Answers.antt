use Rattle.noisy_link.proofs.Told.{finished_told, front_so_far}
use Rattle.noisy_link.proofs.laws.a_noisy_download_goes_to_a_sink.Goals as goal

pub returns-clause-file : goal.returns-clause-file
returns-clause-file c = λ image load events w took held sunk sized begins passes put over. finished_told image load events w took held sunk sized begins passes put over

pub returns-clause-front : goal.returns-clause-front
returns-clause-front c = λ image load events w took held sunk sized begins passes put. front_so_far image load events w took held sunk sized begins passes put
