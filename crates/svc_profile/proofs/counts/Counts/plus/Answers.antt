use Rattle.std.proofs.Common.{arith, refl}
use Rattle.svc_profile.specs.Column as column
use Rattle.svc_profile.proofs.counts.Counts.plus.Goals as goal

pub overflow_add-result : goal.overflow_add-result
overflow_add-result c = let few = c.requires.few column.Named in omega (arith, few)

pub overflow_add-result-2 : goal.overflow_add-result-2
overflow_add-result-2 c = let few = c.requires.few column.Loads in omega (arith, few)

pub overflow_add-result-3 : goal.overflow_add-result-3
overflow_add-result-3 c = let few = c.requires.few column.Stores in omega (arith, few)

pub overflow_add-result-4 : goal.overflow_add-result-4
overflow_add-result-4 c = let few = c.requires.few column.Versions in omega (arith, few)

pub overflow_add-result-5 : goal.overflow_add-result-5
overflow_add-result-5 c = let few = c.requires.few column.Violations in omega (arith, few)

pub overflow_add-result-6 : goal.overflow_add-result-6
overflow_add-result-6 c = let few = c.requires.few column.Squashed in omega (arith, few)

pub overflow_add-result-7 : goal.overflow_add-result-7
overflow_add-result-7 c = let few = c.requires.few column.Turns in omega (arith, few)

pub returns : goal.returns
returns c column.Named = refl
returns c column.Loads = refl
returns c column.Stores = refl
returns c column.Versions = refl
returns c column.Violations = refl
returns c column.Squashed = refl
returns c column.Turns = refl
