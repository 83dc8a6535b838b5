use Rattle.resource_names.proofs.TableLemmas.{project_spelled, project_read}
use Rattle.resource_names.proofs.laws.projects_are_spelled.Goals as goal

pub returns : goal.returns
returns c text name = (project_spelled text name, project_read text name)
