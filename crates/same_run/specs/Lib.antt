-- What the laws cite, in reading order: where a run was refused memory and where the host failed, that a step is the only one,
-- when nothing has failed, that a run is the only one, that a module begins in one way, when two runs are alike, and that the
-- same module, supplies and volume give the same run.
pub mod Growth
pub mod Served
pub mod NextStep
pub mod Failures
pub mod OneRun
pub mod OneStart
pub mod SameWorld
pub mod Alike
pub mod SameSupplies
pub mod SameRun
pub mod SameProgram
pub mod SameProgramReport
