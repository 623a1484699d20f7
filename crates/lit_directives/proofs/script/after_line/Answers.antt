use Rattle.std.proofs.Common.{◌≡◌, Bool, Err, sym, ap, ◌∙◌, subst}
use Rattle.lit_directives.specs.Said.{said_view}
use Rattle.lit_directives.specs.Script.{IsState, State, by_directive, reader_view}
use Rattle.lit_directives.proofs.ScriptLemmas.{leads_stop, leads_nothing, leads_directive, leads_fail}
use Rattle.lit_directives.proofs.script.after_line.Goals as goal

pub returns-in-Stop : goal.returns-in-Stop
returns-in-Stop c =
    leads_stop (reader_view c.args.reader) c.args.number c.args.line.now (sym (ap said_view c.in-Stop.is) ∙ c.read_line.ensures)

pub returns-in-Nothing : goal.returns-in-Nothing
returns-in-Nothing c =
    leads_nothing (reader_view c.args.reader) c.args.number c.args.line.now
    (sym (ap said_view c.in-Nothing.is) ∙ c.read_line.ensures)

pub returns-in-Ok : goal.returns-in-Ok
returns-in-Ok c =
    let s : State = reader_view c.args.reader in
    leads_directive s c.args.number c.args.line.now c.in-Directive.kind c.in-Directive.rest.now
    (sym (ap said_view c.in-Directive.is) ∙ c.read_line.ensures) (reader_view c.in-Ok.next)
    (ap (λ b. by_directive s c.args.number b c.in-Directive.kind c.in-Directive.rest.now) (sym c.is_text.ensures)
    ∙ c.in-Ok.ensures)

pub returns-in-Err : goal.returns-in-Err
returns-in-Err c =
    let s : State = reader_view c.args.reader in
    leads_fail s c.args.number c.args.line.now c.in-Directive.kind c.in-Directive.rest.now
    (sym (ap said_view c.in-Directive.is) ∙ c.read_line.ensures) c.in-Err.fail
    (subst (λ (b : Bool). IsState (Err c.in-Err.fail)
    (by_directive s c.args.number b c.in-Directive.kind c.in-Directive.rest.now)) c.is_text.ensures c.in-Err.ensures)
