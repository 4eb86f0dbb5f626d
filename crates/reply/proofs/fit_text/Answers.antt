-- `reply::fit_text` meets its contract.
-- Kept: the check does not find what stands here, also with the lemmas named on the function.
use Rattle.reply.proofs.AnswerText.{refused_writes, labelled_within, labelled_writes}
use Rattle.reply.proofs.fit_text.Goals as goal

pub print-requires : goal.print-requires
print-requires c =
    labelled_within c.args.input c.requires.few_fixes _ _ _ _ _ c.from_config.ensures c.fit_predict_many-fit.ensures.ended c.fit_predict_many-fit.auto.labels c.in-Ok.is

pub returns-in-Ok : goal.returns-in-Ok
returns-in-Ok c =
    labelled_writes c.args.input c.requires.few_fixes _ _ _ _ _ c.from_config.ensures c.fit_predict_many-fit.ensures.ended c.fit_predict_many-fit.auto.labels c.in-Ok.is
    c.args.form c.print.ensures

pub returns-in-Err : goal.returns-in-Err
returns-in-Err c =
    refused_writes c.args.input c.requires.few_fixes _ _ _ _ _ c.from_config.ensures c.fit_predict_many-fit.ensures.ended c.args.form _ c.in-Err.is
    c.print_refusal.ensures
