use Rattle.std.proofs.Common.{subst}
use Rattle.work_list.specs.Work.{IsUnique}
use Rattle.work_list.proofs.Members.{unique_members}
use Rattle.work_list.proofs.work_list.WorkList.walk.Goals as goal

pub returns-clause-unique : goal.returns-clause-unique
returns-clause-unique c = subst IsUnique c.self.view_is (unique_members c.self.inside.words)
