use Rattle.sandbox_inspect.proofs.places.counted_after_imports.Goals as goal

-- the imports can't be read
pub returns-in_default : goal.returns-in_default
returns-in_default c = c.in-Err.ensures.refused c.in_default.not-Memory
