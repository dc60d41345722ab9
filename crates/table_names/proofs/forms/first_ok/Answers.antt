-- Each sort asks its own test of the first byte.
-- By the sort that the match found.
use Rattle.table_names.proofs.forms.first_ok.Goals as goal

pub returns-in-Location : goal.returns-in-Location
returns-in-Location c = rw c.in-Location.is c.is_capital.ensures

pub returns-in-Small : goal.returns-in-Small
returns-in-Small c = rw c.in-Small.is c.is_lower.ensures

pub returns-in-Identifier : goal.returns-in-Identifier
returns-in-Identifier c = rw c.in-Identifier.is c.is_letter.ensures
