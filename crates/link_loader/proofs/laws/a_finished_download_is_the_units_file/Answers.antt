use Rattle.link_loader.proofs.ImageMessages.{can_be_loaded}
use Rattle.link_loader.proofs.Downloading.{whole_file, front_of_file, talk_goes_on, talk_has_room}
use Rattle.link_loader.proofs.laws.a_finished_download_is_the_units_file.Goals as goal

pub returns-clause-file : goal.returns-clause-file
returns-clause-file c = λ x frames talk image talks finished. whole_file x (can_be_loaded x image) frames talk talks finished

pub returns-clause-front : goal.returns-clause-front
returns-clause-front c = λ x frames talk image talks. front_of_file x (can_be_loaded x image) frames talk talks

pub returns-clause-goes_on : goal.returns-clause-goes_on
returns-clause-goes_on c = λ x frames talk image talks open_. talk_goes_on x (can_be_loaded x image) frames talk talks open_

pub returns-clause-room : goal.returns-clause-room
returns-clause-room c = λ x frames talk frame new image talks exchange. talk_has_room x (can_be_loaded x image) frames talk frame new talks exchange
