-- That threads may share a resolved program: each of its types is of what may be shared.
use denote.Param.Send.{IsSync, sendable}
use Rattle.std.proofs.Crossing.{crosses}
use Rattle.cp_slots.proofs.place.OrdinalExpression.TheLaws.TheKnot.{sync-OrdinalExpression, sync-Place, sync-SetExpression}
use Rattle.cp_slots.specs.contracts.place.Place as place
use Rattle.cp_slots.specs.contracts.place.OrdinalExpression as expression
use Rattle.cp_slots.specs.contracts.place.SetExpression as set_expression
use Rattle.cp_slots.specs.contracts.place.ComponentPlace as component
use Rattle.cp_slots.specs.contracts.place.ArgumentValue as value
use Rattle.cp_slots.specs.contracts.place.Argument as argument
use Rattle.cp_slots.specs.contracts.item.Action as action
use Rattle.cp_slots.specs.contracts.item.Item as item
use Rattle.cp_slots.specs.contracts.tables.Layout as layout
use Rattle.cp_slots.specs.contracts.resolved.Resolved as resolved

ruleset shared = (sendable, crosses)

place_sync : IsSync place.the_field.row
place_sync = search (shared, sync-Place) depth 20

expression_sync : IsSync expression.the_field.row
expression_sync = search (shared, sync-OrdinalExpression) depth 20

set_sync : IsSync set_expression.the_field.row
set_sync = search (shared, sync-SetExpression) depth 20

component_sync : IsSync component.the_field.row
component_sync = search (shared, expression_sync) depth 20

value_sync : IsSync value.the_field.row
value_sync = search (shared, place_sync, expression_sync, set_sync, component_sync) depth 20

argument_sync : IsSync argument.the_field.row
argument_sync = search (shared, value_sync) depth 20

action_sync : IsSync action.the_field.row
action_sync = search (shared, place_sync, expression_sync, set_sync, component_sync, argument_sync) depth 60 fits 20000

item_sync : IsSync item.the_field.row
item_sync = search (shared, action_sync) depth 20

layout_sync : IsSync layout.the_field.row
layout_sync = search (shared, item_sync) depth 60 fits 20000

pub resolved_sync : IsSync resolved.the_row
resolved_sync = search (shared, layout_sync) depth 20
