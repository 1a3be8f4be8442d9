mod AmountLaws
