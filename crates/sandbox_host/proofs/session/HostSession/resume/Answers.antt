use Rattle.std.proofs.Common.{subst, sym}
use Rattle.sandbox_host.specs.declared.session.HostSession.{HostSession}
use Rattle.sandbox_host.specs.Host.{Resumes}
use Rattle.sandbox_host.specs.Sessions.{state_of}
use Rattle.sandbox_host.proofs.session.HostSession.resume.Goals as goal

pub returns-in-Own-clause-resumes : goal.returns-in-Own-clause-resumes
returns-in-Own-clause-resumes c =
    subst (λ (s : HostSession). Resumes (state_of s) c.resume.new.self c.args.units c.resume.result) (sym c.in-Own.is) c.resume.ensures

pub returns-in-Shared-clause-resumes : goal.returns-in-Shared-clause-resumes
returns-in-Shared-clause-resumes c =
    subst (λ (s : HostSession). Resumes (state_of s) c.resume-in-Shared.new.self c.args.units c.resume-in-Shared.result) (sym c.in-Shared.is) c.resume-in-Shared.ensures
