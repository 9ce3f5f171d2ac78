use Rattle.vol_body.proofs.Same.{same_file, same_list, same_rules}
use Rattle.vol_body.proofs.laws.other_files_stay.Goals as goal

pub returns-clause-file : goal.returns-clause-file
returns-clause-file c one other e stays = same_file one other e stays

pub returns-clause-bytes : goal.returns-clause-bytes
returns-clause-bytes c one other e stays small = same_list one other e (same_file one other e stays) small

pub returns-clause-rules : goal.returns-clause-rules
returns-clause-rules c one other e stays body = same_rules one other e (same_file one other e stays) body
