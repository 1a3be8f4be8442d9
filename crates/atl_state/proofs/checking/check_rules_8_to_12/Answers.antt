use Rattle.std.proofs.Common.{sym, subst}
use Rattle.atl_world.specs.Every.{Every, HasValue}
use Rattle.atl_campaign.specs.Good.{AreOwned, AreAfloat, AreOfOneFaction, guards, HasValidMail, AreReported}
use Rattle.atl_campaign.specs.Campaign.{CampaignValue}
use Rattle.atl_state.specs.declared.checking.Rule.TheVariants.{Owners, Water, Guards, Books, Mail}
use Rattle.atl_state.proofs.CheckLaws.{below_next, first_broken, places-said}
use Rattle.atl_state.proofs.checking.check_rules_8_to_12.Goals as goal

pub are_guarded-requires : goal.are_guarded-requires
are_guarded-requires g c =
    subst (λ (s : CampaignValue). Every (λ n u. HasValue s.regions u.region) s.units) (sym c.requires.0)
    (places-said c.args.format c.args.world.now g.rows c.requires.1.1)

pub returns-then-not-keeps_mail : goal.returns-then-not-keeps_mail
returns-then-not-keeps_mail g c =
    let w = c.args.world.now in
    let p = g.rows in
    let f = c.args.format in
    let owners = below_next f w p Owners c.requires.1.1 (subst AreOwned c.requires.0 (c.are_owned.ensures.0 c.if-not-are_owned.false)) in
    let water = below_next f w p Water owners (subst (AreAfloat w) c.requires.0 (c.are_afloat.ensures.0 c.if-not-are_afloat.false)) in
    let guarded = below_next f w p Guards water (subst (AreOfOneFaction guards) c.requires.0 (c.are_guarded.ensures.0 c.if-not-are_guarded.false)) in
    let booked = below_next f w p Books guarded (c.keeps_books.ensures.0 c.if-not-keeps_books.false) in
    first_broken f w p Mail _ booked
    (λ e. subst (λ (s : CampaignValue). HasValidMail s × AreReported s) c.requires.0 (c.keeps_mail.ensures.0 e), λ k. c.keeps_mail.ensures.1 (subst (λ (s : CampaignValue). HasValidMail s × AreReported s) (sym c.requires.0) k))
    c.if-not-keeps_mail.true

pub returns : goal.returns
returns g c =
    let w = c.args.world.now in
    let p = g.rows in
    let f = c.args.format in
    let owners = below_next f w p Owners c.requires.1.1 (subst AreOwned c.requires.0 (c.are_owned.ensures.0 c.if-not-are_owned.false)) in
    let water = below_next f w p Water owners (subst (AreAfloat w) c.requires.0 (c.are_afloat.ensures.0 c.if-not-are_afloat.false)) in
    let guarded = below_next f w p Guards water (subst (AreOfOneFaction guards) c.requires.0 (c.are_guarded.ensures.0 c.if-not-are_guarded.false)) in
    let booked = below_next f w p Books guarded (c.keeps_books.ensures.0 c.if-not-keeps_books.false) in
    below_next f w p Mail booked (subst (λ (s : CampaignValue). HasValidMail s × AreReported s) c.requires.0 (c.keeps_mail.ensures.0 c.if-not-keeps_mail.false))
