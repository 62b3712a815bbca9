mod PassLaws
